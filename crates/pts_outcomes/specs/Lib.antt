pub mod Acts
pub mod Calls
pub mod Effects
pub mod Laws
pub mod Touching
pub mod MapCalls
pub mod Turns
