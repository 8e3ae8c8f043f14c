pub mod Front
mod Runnable
mod Aloud
mod Storing
mod Compiled
mod Sure
mod Telling
