-- What the contracts of the crate `player` cite, and what a reader must believe: what the player tells at a tick, a
-- step and a start, and what it means to follow a tape.
pub mod Told
pub mod Played
pub mod Follows
