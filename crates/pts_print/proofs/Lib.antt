pub mod Turns
pub mod Chains
pub mod Lines
pub mod Spelled
pub mod SpelledScripts
