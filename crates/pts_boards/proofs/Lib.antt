pub mod Claiming
pub mod Lowering
pub mod Numbers
pub mod Raising
pub mod Rule
pub mod Views
