pub mod CircuitCalls
pub mod Law
pub mod Example
