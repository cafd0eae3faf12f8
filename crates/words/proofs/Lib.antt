-- The laws of words and rows.
pub mod Ranges
pub mod Digits
pub mod Parts
pub mod Value
pub mod Rows
pub mod Window
pub mod First
pub mod Flat
pub mod Slices
pub mod Padding
