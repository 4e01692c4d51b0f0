pub mod MapShowing
pub mod Showing
