pub mod Front
mod Numbers
mod Scans
mod Three
mod Whole
mod Outcomes
mod Steps
mod Answers
mod Forms
