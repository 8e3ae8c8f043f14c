pub mod Rewriting
pub mod Stops
pub mod Limits
