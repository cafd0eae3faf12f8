pub mod Stage
pub mod Gray
