pub mod Template
pub mod LongDivision
pub mod Lengthened
pub mod Steps
pub mod Divisions
pub mod DivisionsLeft
pub mod Walks
pub mod Marks
