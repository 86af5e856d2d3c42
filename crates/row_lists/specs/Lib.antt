-- What the contracts of the crate `row_lists` cite.
pub mod Moved
