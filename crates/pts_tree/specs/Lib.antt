pub mod Marks
pub mod Signs
pub mod SignViews
pub mod Grammar
pub mod Spelling
pub mod Expressions
pub mod Statements
pub mod Scripts
