pub mod Sharings
pub mod PairCalls
pub mod Circuits
pub mod Computing
pub mod Gates
pub mod Sharing
pub mod Products
pub mod Conversions
