-- What the contracts of the crate `marks` cite.
pub mod Marks
