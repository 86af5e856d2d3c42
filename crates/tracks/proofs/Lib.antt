-- Laws of the best two-track assignment: rows in another order, narrowing.
pub mod Exchange
pub mod Arranged
pub mod Rows
pub mod Firsts
pub mod Narrowed
pub mod Turns
pub mod Answer
