pub mod Bundle
pub mod Answers
pub mod Sample
pub mod Steps
