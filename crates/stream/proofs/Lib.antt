pub mod Moving
pub mod Tries
