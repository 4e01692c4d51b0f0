pub mod Gaps
pub mod Lexemes
pub mod Numerals
pub mod Scans
pub mod Spellings
pub mod TokenLists
pub mod LexemeEnds
pub mod OneFault
