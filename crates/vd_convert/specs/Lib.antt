pub mod Convert
pub mod Law
