-- Laws of rows that move in their lists.
pub mod Moving
