pub mod Front
mod Reading
mod Statuses
mod Sure
mod Words
mod Names
mod Script
mod Trees
mod Rules
mod Lines
mod Coordinates
mod Sizes
mod Whole
mod Read
