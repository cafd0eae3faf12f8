pub mod Units
pub mod Rows
pub mod Fitting
pub mod Room
pub mod Once
