-- What the contracts of the crate `window` cite, and those of the crates that speak of rows and hours.
pub mod Ticks
pub mod Windows
pub mod Gaps
pub mod Rows
pub mod Hours
