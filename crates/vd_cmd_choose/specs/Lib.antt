pub mod Generating
pub mod Problems
pub mod Certifying
pub mod Choosing
pub mod Claims
