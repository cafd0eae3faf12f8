pub mod Chain
pub mod Passed
pub mod Division
pub mod Never
