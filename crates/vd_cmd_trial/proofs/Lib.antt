pub mod Front
mod Given
mod Enough
mod Chosen
mod Told
mod Sure
mod Texts
mod Ends
