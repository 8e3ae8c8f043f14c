pub mod Front
mod Steps
mod Untouched
mod Once
mod Told
mod Made
mod SlotKinds
mod Beside
mod Typed
mod Walked
mod Guards
mod Held
mod Chosen
mod Lengthened
mod Asked
mod Labelled
mod RewriteLabelsWalked
mod KeptLabels
