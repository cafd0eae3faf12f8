-- Texts put one after the other.
pub mod Putting
pub mod Digits
