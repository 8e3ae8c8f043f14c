mod Outcomes
mod ByStatus
mod SlotLines
mod Rounds
mod Pieces
