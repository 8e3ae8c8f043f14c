pub mod Front
mod Lists
mod Places
mod GateRooms
mod GateGives
mod CircuitGives
mod BitLaws
mod BitActs
mod Turns
mod Numbers
mod Masks
