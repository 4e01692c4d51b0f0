pub mod Ascending
pub mod Leaving
