pub mod Offered
pub mod Turns
pub mod Formed
pub mod Moving
