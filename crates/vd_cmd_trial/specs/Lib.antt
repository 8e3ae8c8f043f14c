pub mod Trial
pub mod Telling
