pub mod Front
mod Words
mod Tables
mod Closure
mod Implies
mod Acting
mod FormSteps
mod FormTruths
mod FormNames
mod Antichains
mod Grown
