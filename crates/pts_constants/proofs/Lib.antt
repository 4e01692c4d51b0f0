pub mod Additions
pub mod BlockForms
pub mod Counts
pub mod Resolutions
pub mod ResolvedStatements
pub mod TextForms
pub mod Turns
