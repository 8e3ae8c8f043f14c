pub mod AddCalls
pub mod Law
pub mod Example
