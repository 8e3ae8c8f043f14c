pub mod Lowered
pub mod Outputs
pub mod Normal
pub mod Calls
