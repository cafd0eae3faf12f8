pub mod Bytes
pub mod Kinds
pub mod Swaps
