pub mod Changes
pub mod Footprints
pub mod Frames
pub mod Laws
pub mod Meanings
pub mod Parts
pub mod Runs
pub mod Trees
