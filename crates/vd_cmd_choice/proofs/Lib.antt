pub mod Front
mod Certificates
mod ReadPrograms
mod Chosen
mod Steps
mod Sure
