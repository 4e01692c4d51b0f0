pub mod BlockForms
pub mod Cells
pub mod Heads
pub mod ItemForms
pub mod Numbering
pub mod Summing
pub mod Turns
