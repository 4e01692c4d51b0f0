pub mod Tied
pub mod PointTurns
pub mod Ready
pub mod LoopTurns
pub mod Gathered
pub mod PositionTurns
mod Programs
pub mod FirstTurns
pub mod Staying
pub mod Assigned
pub mod Ended
