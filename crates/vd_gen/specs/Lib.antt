pub mod Source
pub mod Sizes
