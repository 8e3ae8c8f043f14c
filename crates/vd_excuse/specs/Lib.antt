pub mod Excuse
pub mod Ahead
pub mod Reading
pub mod Claims
pub mod Short
pub mod Excuses
pub mod Filling
pub mod Talk
