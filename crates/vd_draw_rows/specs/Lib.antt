pub mod Lines
pub mod Texts
pub mod Moves
pub mod Rows
pub mod Parts
pub mod Costs
pub mod Wire
