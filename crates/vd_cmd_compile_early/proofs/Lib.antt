mod Compiled
mod Telling
mod Running
mod Hashed
