pub mod Points
pub mod Turns
pub mod Gathering
pub mod Kinds
pub mod Assigning
pub mod Answers
