pub mod Front
mod Writes
mod Digests
mod Items
mod Taking
mod Spans
mod Framing
mod Steps
mod Resolving
mod Whole
mod Loading
mod Places
mod Rooms
mod Packets
mod Widths
mod Weights
mod Running
mod Wanted
