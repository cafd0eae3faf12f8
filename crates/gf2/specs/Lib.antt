pub mod Rows
pub mod Reduced
pub mod Rref
pub mod Additions
pub mod Inverse
