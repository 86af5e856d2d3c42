-- What the contracts of the crate `trial_report` cite.
pub mod Groups
