pub mod Program
pub mod Telling
pub mod Server
