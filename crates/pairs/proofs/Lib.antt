-- Laws of the most that a class hears, of pairs of crossing rows, and of their bounds.
pub mod Classes
pub mod Leaves
pub mod Fits
pub mod Bounds
pub mod Worths
pub mod Numbers
pub mod Value
pub mod Trials
pub mod Adding
pub mod Kept
pub mod LabelsFound
pub mod Finding
