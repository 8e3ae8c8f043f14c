pub mod Replaying
pub mod Counting
pub mod Telling
pub mod Accepting
