pub mod Places
pub mod Groupings
pub mod Truths
pub mod Pairs
pub mod Counts
pub mod Ends
