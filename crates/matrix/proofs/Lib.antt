pub mod Calls
pub mod Once
pub mod Bounds
