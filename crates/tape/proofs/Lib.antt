-- Laws of commands and of 16-bit operands.
pub mod WidthTable
pub mod Widths
pub mod Joined
pub mod Heads
