pub mod Transfers
pub mod Naming
pub mod Steps
pub mod Guards
pub mod Tables
