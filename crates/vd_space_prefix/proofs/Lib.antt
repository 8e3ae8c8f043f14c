pub mod Front
mod Fills
mod Changes
mod Found
mod Choices
mod Paths
mod Greater
mod Numbering
mod Placed
mod Growing
mod Joined
