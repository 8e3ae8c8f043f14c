pub mod Deals
pub mod Schedules
pub mod Asking
pub mod Outcomes
pub mod Choices
