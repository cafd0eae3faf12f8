pub mod Trips
pub mod Calls
