pub mod Lists
pub mod Counted
pub mod Needs
pub mod Sizes
pub mod DealNeedsLawsNeeds
pub mod Enough
pub mod Items
