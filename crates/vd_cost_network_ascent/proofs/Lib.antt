mod Entering
mod Making
mod Taken
mod Naming
mod Passed
