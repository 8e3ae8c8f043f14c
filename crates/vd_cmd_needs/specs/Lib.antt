pub mod Needed
pub mod Lines
pub mod RoundsLines
pub mod Needing
pub mod Telling
pub mod ReadBack
