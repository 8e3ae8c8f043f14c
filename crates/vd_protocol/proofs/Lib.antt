pub mod Front
mod Rows
mod Members
mod Over
