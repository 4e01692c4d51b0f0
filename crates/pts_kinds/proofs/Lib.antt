pub mod Above
pub mod Braces
pub mod Every
pub mod Heads
pub mod Lines
pub mod Operands
pub mod Same
