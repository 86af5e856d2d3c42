-- What the contracts of the crate `candidates` cite, and what a reader must believe.
pub mod Tried
pub mod Lent
