-- What the contracts of the crate `hub_c` cite: how what a call gives is handed over to C.
pub mod Handed
