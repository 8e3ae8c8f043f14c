pub mod Numbers
pub mod Groups
pub mod Commands
pub mod Own
pub mod HelpRead
