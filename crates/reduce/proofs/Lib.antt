-- The laws of the report.
pub mod Lines
pub mod Entries
pub mod Found
pub mod Example
pub mod Short
pub mod Whole
