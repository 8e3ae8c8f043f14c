pub mod Reading
pub mod Exact
pub mod Outcome
pub mod Digits
