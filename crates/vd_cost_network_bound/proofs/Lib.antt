mod Passing
mod Joined
mod Alone
mod Owned
mod Summed
