pub mod Raising
pub mod Reading
pub mod Visits
pub mod LabelsLeastRaising
pub mod Free
