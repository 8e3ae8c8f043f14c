pub mod Front
mod Stores
mod Tables
mod Chain
mod Agree
mod Meaning
mod Statements
mod Outputs
mod Pushes
mod Shape
mod Tests
mod Sights
mod Seeing
mod WellMade
mod Sizes
mod Weights
mod Exits
