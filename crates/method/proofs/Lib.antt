pub mod Upto
pub mod Table
pub mod Pending
pub mod Taking
pub mod WindowBits
pub mod Gray
pub mod Counting
pub mod Done
