pub mod Values
pub mod Charges
pub mod Gains
pub mod Start
pub mod Parts
pub mod Prices
pub mod Sums
pub mod Arcs
