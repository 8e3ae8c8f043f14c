mod Speakers
mod InTurn
mod PacketsRead
mod AheadNamed
