pub mod Faults
pub mod Ways
pub mod Walks
