pub mod Equations
pub mod Lines
