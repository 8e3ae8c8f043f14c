pub mod Front
mod Decided
mod Summing
mod Steps
mod Moving
mod Reaching
mod Turning
mod Changing
