-- Laws of plan tapes and of writing one.
pub mod Order
pub mod Length
pub mod Listing
pub mod Accepted
pub mod Before9
pub mod Reading
pub mod Same
pub mod Writes
pub mod Gaps
pub mod Sample
