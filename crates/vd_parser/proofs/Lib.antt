pub mod Front
mod Ready
mod Steps
mod Meanings
mod Precedence
mod Signs
mod Progress
mod Document
mod Scan
mod Outcomes
mod OutcomeLaws
mod OutcomeTotal
mod Named
