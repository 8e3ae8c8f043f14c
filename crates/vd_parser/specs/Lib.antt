pub mod Language
pub mod Syntax
pub mod Parsing
pub mod Levels
pub mod Document
pub mod Nesting
pub mod Whole
pub mod Outcomes
