pub mod Drives
pub mod Enough
pub mod Events
pub mod Hosts
pub mod Links
pub mod Turning
