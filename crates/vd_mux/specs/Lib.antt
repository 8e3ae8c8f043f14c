pub mod BooleanGuards
pub mod Branches
pub mod Selections
pub mod Truths
pub mod Walks
pub mod Hidden
