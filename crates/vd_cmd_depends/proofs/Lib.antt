pub mod Front
mod Existing
mod Naming
mod Group
mod Told
mod Influence
mod ReadBack
