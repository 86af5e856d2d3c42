-- What the contracts of the crate `pairs` cite.
pub mod Pairs
pub mod Ready
pub mod Bounds
pub mod Found
pub mod Finding
