pub mod Front
mod Loops
mod Members
mod Shows
mod EachLaw
mod HostLaws
mod ShowLaws
mod ClearLaws
mod ClearActs
