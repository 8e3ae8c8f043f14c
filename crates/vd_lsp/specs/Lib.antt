pub mod Outcomes
pub mod Faults
pub mod Names
pub mod Hovers
pub mod Answering
pub mod States
pub mod Streams
