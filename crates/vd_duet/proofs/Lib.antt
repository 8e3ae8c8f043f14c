pub mod Front
mod Rooms
mod Found
mod Writes
mod Leads
