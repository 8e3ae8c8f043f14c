mod Behind
mod Commas
mod Keys
mod Values
mod Words
mod HelpRead
