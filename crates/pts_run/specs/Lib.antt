pub mod Acceptance
pub mod Output
pub mod Settings
pub mod Text
pub mod Words
pub mod Writing
