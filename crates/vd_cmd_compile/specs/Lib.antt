pub mod Selected
pub mod Compiling
pub mod Telling
