pub mod Front
mod Parts
mod Numbers
mod Whole
mod Outcomes
mod Steps
mod Loops
mod Exact
mod KeySteps
