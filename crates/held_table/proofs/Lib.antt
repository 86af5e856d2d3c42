-- Theorems about held tables, worked examples, and what the functions' proofs rest on.
pub mod Bench
pub mod Laws
pub mod Sequences
pub mod WorkingSpace
pub mod Order
pub mod Right
pub mod Answering
pub mod Adding
pub mod Withdrawing
pub mod Planning
