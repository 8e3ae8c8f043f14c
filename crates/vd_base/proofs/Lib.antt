pub mod Front
mod Shifts
mod LexicalLemmas
mod Same
mod EntriesByName
mod WordLists
mod Members
mod Holding
