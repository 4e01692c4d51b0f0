pub mod Orders
pub mod Touched
pub mod Turns
pub mod MapTurns
pub mod MapRuns
