-- Laws of plan tapes as they are read, and the theorem about which are taken.
pub mod Items
pub mod Positions
pub mod Listens
pub mod Begun
pub mod Rises
pub mod Parts
pub mod Formed
pub mod Made
pub mod Places
pub mod Witness
pub mod Taken
pub mod Gaps
pub mod Sample
