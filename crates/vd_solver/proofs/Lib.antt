pub mod Front
mod Bounds
mod Queues
mod Indexes
mod Progress
mod Checks
mod Parts
mod LabelsLeastRaising
mod Free
mod LabelsLeastChecks
mod Once
mod Somehow
mod Decided
mod Function
