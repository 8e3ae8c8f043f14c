pub mod Front
mod TallyText
mod TallyRuns
mod ClockBounds
mod LoadBytes
