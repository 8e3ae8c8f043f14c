pub mod Front
mod Emitted
mod Rows
mod Binds
mod Reveals
mod CommitActs
