pub mod Least
pub mod Bounds
pub mod Ascents
