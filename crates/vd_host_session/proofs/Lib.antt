pub mod Front
mod Announced
mod Asking
mod Causes
mod ComingBack
mod Courses
mod Gathering
mod Limits
mod Listeners
mod Numbers
mod Others
mod Refusals
mod Lines
mod HostStartPlaying
mod Trees
