pub mod Drawing
pub mod Shares
