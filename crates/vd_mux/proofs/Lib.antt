pub mod Front
mod Truths
mod Guards
mod SelectionsKept
mod SelectionsWellMade
mod Turned
mod Reading
mod BranchesGone
mod HiddenGone
