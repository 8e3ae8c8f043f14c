pub mod Front
mod Blocks
mod Distinct
mod Pieces
mod Twice
mod Ends
mod OneMore
mod Purposes
