pub mod Front
mod Reading
mod OneDeal
mod AllDeals
mod Explained
mod Looked
mod Answered
mod Naming
mod Held
mod Sure
mod MoreFiles
