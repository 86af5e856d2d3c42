-- Laws of the reply.
pub mod Putting
pub mod Replying
pub mod Session
pub mod WorkingSpace
