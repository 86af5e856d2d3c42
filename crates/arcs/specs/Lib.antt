-- What the contracts of the crate `arcs` cite.
pub mod Arcs
pub mod Positions
pub mod Order
