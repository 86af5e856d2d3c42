-- Laws of ticks and windows.
pub mod Circle
pub mod Windows
pub mod Meaning
pub mod Listed
pub mod PartDay
pub mod AllDay
pub mod Gaps
pub mod Distances
