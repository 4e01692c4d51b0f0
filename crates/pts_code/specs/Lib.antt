pub mod Codes
pub mod Compiling
pub mod Functions
pub mod Laws
pub mod Outcomes
pub mod Soundness
pub mod Values
