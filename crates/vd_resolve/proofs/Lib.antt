mod Capped
mod Tables
mod Lookups
mod Sequences
mod Told
mod KindLists
mod Limiting
