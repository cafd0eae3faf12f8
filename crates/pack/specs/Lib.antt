pub mod Encode
pub mod Writing
pub mod Steps
pub mod Given
