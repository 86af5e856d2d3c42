-- Laws behind the crate `bit_words`.
pub mod BitLaws
pub mod Carrying
pub mod Clashing
pub mod Answering
pub mod Laws
pub mod Bench
