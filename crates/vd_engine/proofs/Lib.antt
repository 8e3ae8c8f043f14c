pub mod Front
mod Codes
mod Composing
mod Driving
mod Enough
mod Going
mod Turns
mod WordLines
mod Running
