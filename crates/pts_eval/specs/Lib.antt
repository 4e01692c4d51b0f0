pub mod Built
pub mod Calls
pub mod Cells
pub mod Expressions
pub mod Maps
pub mod Runs
pub mod Sums
