pub mod Dealing
pub mod KeyDealing
pub mod Laws
pub mod Sources
