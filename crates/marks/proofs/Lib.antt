-- Theorems about marks.
pub mod Allowing
pub mod Listed
pub mod Raising
