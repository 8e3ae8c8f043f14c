mod Children
mod Entries
mod Freed
mod Fresh
mod Pieces
mod Places
mod Receiving
