pub mod Outcome
pub mod Checks
