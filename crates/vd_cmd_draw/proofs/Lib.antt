pub mod Front
mod Printed
mod Sure
mod Telling
mod Heading
mod Legends
mod Adding
mod Arrows
mod Coming
mod Asked
mod RevealsSure
mod RevealsTold
