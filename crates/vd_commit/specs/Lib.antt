pub mod Commit
pub mod Law
