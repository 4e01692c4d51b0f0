pub mod Bitwise
pub mod Codes
pub mod Grouping
