pub mod Building
pub mod Inside
pub mod Lines
pub mod Pieces
pub mod Points
pub mod Standings
pub mod Widths
