pub mod World
pub mod Stores
pub mod Turns
pub mod Functions
pub mod SourceMeaning
pub mod Wraps
pub mod ProgramMeaning
pub mod Comparisons
