-- What the contracts of the crate `bit_words` cite, and what a reader must believe.
pub mod Bits
pub mod Words
pub mod Clashes
pub mod Lent
