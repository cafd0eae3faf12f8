pub mod Solving
pub mod Contradiction
pub mod Lists
