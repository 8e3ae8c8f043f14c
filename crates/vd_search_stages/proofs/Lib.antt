pub mod Front
mod SoFar
mod Chosen
mod Once
mod Accepted
mod Named
mod Answered
mod ByArcs
mod Floors
mod Untied
mod Spent
mod Assigned
mod Optimal
