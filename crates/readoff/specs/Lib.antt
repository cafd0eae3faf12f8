pub mod ReadOff
pub mod Steps
