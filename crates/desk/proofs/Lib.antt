pub mod Sound
pub mod Form
pub mod Front
