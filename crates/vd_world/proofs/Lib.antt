pub mod Front
mod Cuts
mod Packets
mod Counting
mod Noting
mod Hearing
mod Worlds
mod Rounds
mod Starting
mod Quieter
mod Shared
mod Supplies
mod Loaded
mod Runs
mod Told
mod Lists
