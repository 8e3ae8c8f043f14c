pub mod Front
mod Emitted
mod ToXor
mod ToAdd
mod ConvertActs
