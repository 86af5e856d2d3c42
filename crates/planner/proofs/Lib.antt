-- Laws of the planner.
pub mod Answering
