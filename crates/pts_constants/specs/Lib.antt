pub mod Blocks
pub mod Resolved
pub mod Texts
