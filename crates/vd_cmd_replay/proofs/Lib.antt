pub mod Front
mod Playable
mod Replayed
mod Held
mod Counting
mod Steps
mod Accepting
mod Budgets
mod Sure
