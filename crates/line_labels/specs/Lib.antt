-- What the contracts of the crate `line_labels` cite.
pub mod Found
pub mod Marks
pub mod Added
