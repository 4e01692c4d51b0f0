pub mod Affines
pub mod Firsts
pub mod Walks
