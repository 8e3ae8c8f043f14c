mod Heads
mod Bounds
mod LineSteps
