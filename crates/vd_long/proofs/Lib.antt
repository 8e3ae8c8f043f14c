pub mod Front
mod DivisionWords
mod DivisionWhole
mod DivisionSteps
mod DivisionOthers
mod Numbers
mod DivisionMade
mod DivisionWellMade
mod StepsGrow
mod Placing
mod LongSizes
mod LongProgram
mod DivisionsGone
mod LongGone
