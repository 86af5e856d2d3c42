-- What the contracts of the crate `tracks` cite.
pub mod Tracks
pub mod Narrowing
