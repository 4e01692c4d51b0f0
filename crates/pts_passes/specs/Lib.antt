pub mod Ends
pub mod Inductions
pub mod Laws
pub mod LiveOuts
pub mod Passes
