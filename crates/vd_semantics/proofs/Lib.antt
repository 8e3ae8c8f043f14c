pub mod Front
mod Puts
mod Lookup
mod Sizes
mod Ordered
