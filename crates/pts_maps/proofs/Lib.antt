pub mod Asked
pub mod TransformRuns
