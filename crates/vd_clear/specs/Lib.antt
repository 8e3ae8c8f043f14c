pub mod Copies
pub mod Law
