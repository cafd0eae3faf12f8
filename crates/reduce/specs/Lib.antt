pub mod Report
pub mod Streams
