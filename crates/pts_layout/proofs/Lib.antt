pub mod BlockFolds
pub mod Blocks
pub mod CallParts
pub mod Calls
mod Halving
pub mod Items
pub mod Places
pub mod Points
