pub mod Compiling
pub mod Telling
pub mod Running
pub mod Plans
