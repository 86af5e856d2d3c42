-- What the contracts of the crate `trial_calls` cite.
pub mod Drawn
pub mod Judged
