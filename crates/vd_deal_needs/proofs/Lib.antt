pub mod Front
mod Taken
mod Greatest
mod DealNeedsLawsTaken
mod ReadOff
mod Alone
mod Countable
mod Strangers
mod Measured
mod Enough
mod Made
mod Acts
mod DealNeedsLimitsBlocks
mod Programs
