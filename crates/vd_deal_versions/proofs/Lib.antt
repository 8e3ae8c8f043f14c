pub mod Front
mod DealtExact
mod LinkLoop
mod LinksExact
mod LinksWritten
mod Outcomes
mod PlainExact
mod SecretExact
mod LastLine
mod Versions
mod Begins
