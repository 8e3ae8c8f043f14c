pub mod Front
mod Lists
mod Ways
mod Causes
mod Reports
mod Completes
mod Holding
mod OwnLines
