pub mod Front
mod Stepped
mod Differing
mod Stored
mod Answered
mod Backward
mod Blocks
mod Gadgets
mod Nobody
mod Trimmed
mod Plans
mod Short
mod Excused
mod Filled
mod Link
