pub mod Front
mod Placed
mod Switching
mod Counting
mod Placing
mod Costs
mod Tabled
mod Shifting
mod Raising
mod Ranging
mod Rawing
mod Bringing
mod Owning
mod Pointing
mod Assembling
