pub mod Members
pub mod Questions
pub mod Asked
pub mod Said
pub mod Answers
