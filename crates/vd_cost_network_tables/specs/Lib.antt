pub mod Tables
pub mod Raws
pub mod Sums
pub mod Sources
