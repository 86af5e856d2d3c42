-- What the contracts of the crate `labels` cite.
pub mod Labels
pub mod Permission
