pub mod Entered
pub mod Shown
