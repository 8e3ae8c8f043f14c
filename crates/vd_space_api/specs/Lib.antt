pub mod Places
pub mod Low
pub mod Rows
pub mod Terms
pub mod Ledger
