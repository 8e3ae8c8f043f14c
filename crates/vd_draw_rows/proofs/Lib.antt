pub mod Front
mod Terms
mod Sums
mod Taking
mod Blocks
