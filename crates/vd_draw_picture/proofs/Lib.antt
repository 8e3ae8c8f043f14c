mod Pictured
mod RowSteps
mod Drawn
