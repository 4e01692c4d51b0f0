pub mod Kernels
pub mod Lanes
