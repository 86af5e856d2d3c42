-- What the contracts of the crate `fleet_tape` cite: the fleet tape, its form, the right answer of a call and what is
-- promised of it.
pub mod Fleet
pub mod Form
pub mod Scan
pub mod Reading
pub mod Reads
