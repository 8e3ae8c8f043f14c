pub mod Registers
pub mod Sides
pub mod Runs
