pub mod Front
mod Kept
mod Fits
mod Sizes
mod Walks
mod Labellings
mod Firsts
mod InSight
mod Growth
mod Few
mod Asking
mod Walk
