pub mod Bounds
pub mod Finds
pub mod Given
pub mod Lists
pub mod Literals
pub mod Starts
