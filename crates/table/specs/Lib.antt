-- What the contracts of the crate `table` cite, and what a reader must believe: tables, plans, checks and the right
-- answer.
pub mod Tables
pub mod Checks
pub mod Planned
pub mod Changes
