-- Laws of the refusals.
pub mod Refusals
