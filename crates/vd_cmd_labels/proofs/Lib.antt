pub mod Front
mod Reading
mod Labelled
mod InputLists
mod HeldTexts
mod Authorities
mod Fitting
mod Rights
mod Walk
mod Systems
mod Wrapping
