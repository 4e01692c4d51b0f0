pub mod KindNames
pub mod Syntax
pub mod TokenTexts
