pub mod Answers
pub mod Folds
pub mod Laws
pub mod Places
