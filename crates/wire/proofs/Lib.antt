-- The laws of numbers, words and bits in bytes.
pub mod Bytes
pub mod Reversal
pub mod Orders
