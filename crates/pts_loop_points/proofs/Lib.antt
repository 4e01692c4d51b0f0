pub mod BodyArrays
mod ClauseCells
pub mod ElementArrays
pub mod GlobalNames
pub mod IndexElements
mod Indices
pub mod LoopCalls
pub mod LoopFits
pub mod LoopMoves
pub mod Loops
pub mod Moves
pub mod Numbers
pub mod ReadMoves
pub mod Shown
