mod Acceptances
mod ArrayNames
pub mod CommandLines
pub mod Endings
pub mod Exclusions
pub mod Performed
pub mod Runs
pub mod Sizes
pub mod Texts
