-- Laws of the best plan of a checked table.
pub mod Reach
pub mod Rows
pub mod AllDay
pub mod Gaps
pub mod Given
pub mod Clearing
