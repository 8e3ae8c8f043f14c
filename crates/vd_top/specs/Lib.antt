pub mod Commands
pub mod Compiled
pub mod Counts
pub mod Headline
pub mod Hosts
pub mod Answers
pub mod Promises
pub mod Early
