pub mod BitCalls
pub mod Law
pub mod Example
