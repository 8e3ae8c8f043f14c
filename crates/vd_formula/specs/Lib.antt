pub mod TruthTable
pub mod MinimalSets
pub mod Forms
pub mod Faults
pub mod Labels
