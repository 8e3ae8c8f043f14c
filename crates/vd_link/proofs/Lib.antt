pub mod Front
mod Filling
mod GreetingLaws
mod Greetings
mod Streams
mod Words
