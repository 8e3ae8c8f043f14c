pub mod Named
pub mod Facts
pub mod Numbers
