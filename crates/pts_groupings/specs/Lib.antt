pub mod Brackets
pub mod Chunks
pub mod Sums
pub mod Scans
pub mod Reductions
pub mod Laws
