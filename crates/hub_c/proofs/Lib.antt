-- Worked examples of what C is handed.
pub mod Bench
