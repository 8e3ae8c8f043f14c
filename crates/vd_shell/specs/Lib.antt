pub mod Ahead
pub mod Reasons
pub mod Telling
pub mod PacketsRead
pub mod NamedAhead
