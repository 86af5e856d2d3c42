-- What the contracts of the crate `tape` cite.
pub mod Commands
pub mod Words
