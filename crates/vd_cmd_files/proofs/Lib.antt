pub mod Front
mod Reading
mod Loops
mod AskedSteps
mod Judged
mod Searching
mod Picked
mod ChoiceTold
