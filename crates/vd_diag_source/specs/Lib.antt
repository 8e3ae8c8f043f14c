pub mod Phrases
pub mod Syntax
pub mod Kinds
pub mod Rules
pub mod Following
pub mod Judging
pub mod SyntaxRemarks
