mod Seen
mod Cut
