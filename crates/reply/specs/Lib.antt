-- What the contracts of the crate `reply` cite: the lines that `hubplan` prints, and the right answer of a call.
pub mod Lines
pub mod Replied
pub mod Room
