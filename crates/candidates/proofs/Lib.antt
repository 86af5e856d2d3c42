-- Theorems about candidates.
pub mod Trying
pub mod Visiting
pub mod Answering
pub mod Hearing
pub mod Laws
pub mod WorkingSpace
pub mod Bench
