-- Laws of label lists and of the tests that decide statements about them.
pub mod Heard
pub mod Search
pub mod Best
pub mod Listed
pub mod Permissions
