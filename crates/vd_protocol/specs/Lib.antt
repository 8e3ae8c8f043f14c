pub mod Authority
pub mod Pairings
