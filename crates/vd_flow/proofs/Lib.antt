mod Walking
mod Forcing
