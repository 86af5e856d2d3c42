-- Laws of arcs.
pub mod Steps
pub mod Meets
pub mod Cut
pub mod Rearranging
pub mod Sorting
pub mod Inserting
