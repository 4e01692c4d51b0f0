pub mod Building
pub mod Positions
pub mod Scopes
pub mod Shown
pub mod Steps
pub mod Texts
