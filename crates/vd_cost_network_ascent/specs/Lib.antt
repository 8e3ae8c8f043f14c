pub mod Walking
pub mod Shifts
