pub mod Lines
pub mod RealSpawner
pub mod Turns
pub mod Ends
