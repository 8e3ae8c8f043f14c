pub mod Plain
pub mod RunPrograms
pub mod Unchanged
pub mod TurnedLabels
