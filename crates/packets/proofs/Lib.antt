pub mod Images
pub mod Calls
pub mod Naming
pub mod Marks
pub mod Lists
pub mod Once
pub mod Exactly
