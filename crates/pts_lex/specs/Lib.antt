pub mod Lexical
pub mod Scanning
