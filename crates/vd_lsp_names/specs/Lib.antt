pub mod Uses
pub mod Asking
pub mod Texts
pub mod Sights
