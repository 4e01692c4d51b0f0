pub mod LoopPoints
