pub mod Outcome
pub mod Plain
pub mod Reading
pub mod Text
