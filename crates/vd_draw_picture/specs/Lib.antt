pub mod Arrows
pub mod Heads
pub mod RowMarks
pub mod AllRows
pub mod Legend
pub mod Picture
pub mod Drawn
