pub mod Tallies
pub mod TallyLaws
pub mod Loads
pub mod Clocks
