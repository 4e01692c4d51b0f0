pub mod Cells
pub mod Level
pub mod LineEquations
pub mod Partners
pub mod Restrictions
pub mod Roots
