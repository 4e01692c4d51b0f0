pub mod Lists
pub mod Shapes
pub mod Phrases
pub mod Tasks
pub mod Texts
pub mod Factoring
