pub mod Outcomes
pub mod Depending
pub mod Telling
pub mod Influencing
pub mod ReadBack
