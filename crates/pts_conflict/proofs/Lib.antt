mod CallPairs
mod Clashes
mod Elements
mod Firsts
mod Forking
mod LeastConflicts
mod Meetings
pub mod OneConflict
mod Opposites
mod PartPairs
mod ProgramLaws
mod Ranges
mod TaskPoints
