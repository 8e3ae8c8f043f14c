pub mod Answers
pub mod Laws
pub mod Compiled
pub mod Holding
pub mod Sizes
pub mod Dealt
pub mod KeyedDealt
