-- Laws of the form of a fleet tape, and the theorems about the reader.
pub mod Marks
pub mod Rows
pub mod Judged
pub mod Parsed
pub mod Exact
pub mod Session
