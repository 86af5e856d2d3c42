-- Laws that the proofs of the crate `line` cite, and the theorems about `best`.
pub mod Laws
pub mod BestFrom
pub mod Turns
pub mod Highs
pub mod Nexts
pub mod Stages
pub mod Optimum
