pub mod Concurrency
pub mod Conflicts
pub mod Order
pub mod Search
pub mod Touches
