pub mod Front
mod Asked
mod Children
mod Counted
mod Outputs
mod Told
mod Waiting
