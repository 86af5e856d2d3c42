-- What several crates cite and belongs to none of them: lists of numbers, tests, and how many rows there can be.
pub mod Lists
pub mod Tests
pub mod Limits
