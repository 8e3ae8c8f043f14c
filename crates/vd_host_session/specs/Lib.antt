pub mod Histories
pub mod Laws
pub mod Meetings
pub mod Peers
pub mod Plays
pub mod Stages
pub mod Packets
pub mod Starts
