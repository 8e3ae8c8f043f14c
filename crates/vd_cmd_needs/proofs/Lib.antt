pub mod Front
mod Rounding
mod Reading
mod Answered
mod Told
mod Sure
mod ReadBack
