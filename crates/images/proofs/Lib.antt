pub mod Found
pub mod Narrow
pub mod Meeting
pub mod Solution
pub mod Known
pub mod Lists
pub mod Named
