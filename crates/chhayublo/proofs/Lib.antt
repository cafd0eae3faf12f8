pub mod Shown
pub mod Once
