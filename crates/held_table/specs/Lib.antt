-- What the contracts of the crate `held_table` cite, and what a reader must believe.
pub mod Held
pub mod Came
pub mod Lent
