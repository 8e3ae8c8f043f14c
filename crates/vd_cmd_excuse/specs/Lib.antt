pub mod Dealing
pub mod Runs
pub mod Excusing
pub mod Telling
pub mod Named
