pub mod Builder
pub mod Calls
pub mod Acting
pub mod Laws
