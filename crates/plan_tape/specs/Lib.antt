-- What a plan tape is, the right answer of the writer, and what the contracts of its parts cite.
pub mod PlanTapes
pub mod Stated
pub mod Written
pub mod Parts
