pub mod Front
mod AddLaws
mod Numbers
