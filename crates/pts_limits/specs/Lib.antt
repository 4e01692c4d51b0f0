pub mod Amounts
pub mod Rules
