-- Laws of the player, the theorem that it follows its tape, and worked examples.
pub mod Steps
pub mod Finding
pub mod Walking
pub mod Telling
pub mod Following
pub mod Starting
pub mod Promised
pub mod Plan
pub mod AllDay
pub mod Session
