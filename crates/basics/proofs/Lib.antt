-- Laws of tests and of lists of numbers.
pub mod Tests
pub mod Lists
pub mod Places
pub mod Filling
pub mod Puts
pub mod Stores
pub mod Swaps
