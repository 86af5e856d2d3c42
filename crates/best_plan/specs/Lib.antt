-- What the contracts of the crate `best_plan` cite.
pub mod Rows
