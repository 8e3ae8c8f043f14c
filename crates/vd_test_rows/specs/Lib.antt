pub mod Codes
pub mod Serving
