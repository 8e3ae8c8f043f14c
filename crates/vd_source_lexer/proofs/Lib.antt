pub mod Front
mod Pieces
mod TokenSteps
mod TokenLaws
mod TokenFacts
mod Exact
mod Models
mod Runs
mod OneTree
mod Extra
mod Readings
mod Factor
mod Lawful
mod SpelledLaws
