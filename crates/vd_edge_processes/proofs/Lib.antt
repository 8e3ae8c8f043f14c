mod Cutting
mod Known
mod ByTurns
mod Ended
mod FirstCauses
