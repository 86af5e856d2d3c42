-- Laws that the proofs of the crate `line_labels` cite.
pub mod Marking
pub mod Paths
pub mod Turns
pub mod Progress
