-- What the contracts of the crate `plan_reader` cite, and what a reader must believe: what stands at a place of a plan
-- tape and where the reader stands after it, and which tapes are taken.
pub mod Items
pub mod Taken
pub mod Judged
