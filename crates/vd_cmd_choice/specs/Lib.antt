pub mod Outcomes
pub mod Searching
pub mod Programs
pub mod Choice
