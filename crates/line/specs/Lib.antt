-- What the contracts of the crate `line` cite.
pub mod Line
pub mod Cells
pub mod Filled
pub mod Turns
