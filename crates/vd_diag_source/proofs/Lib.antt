mod Exactness
mod Found
