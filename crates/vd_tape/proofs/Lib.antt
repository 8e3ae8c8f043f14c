pub mod Front
mod ShareLoop
mod ItemsExact
mod SharesExact
mod DealExact
mod Outcomes
mod SharesWritten
mod TwoByTwo
mod Streams
mod Drawn
mod MadeValid
mod MadeWords
mod EachHost
mod Apart
mod DealKeystreamApart
mod Keys
