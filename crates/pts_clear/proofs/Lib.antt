pub mod ClearCalls
pub mod MapLists
pub mod MapPoints
pub mod MapsShown
pub mod Told
