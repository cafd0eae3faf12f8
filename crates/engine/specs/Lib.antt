pub mod Core
pub mod Stage
