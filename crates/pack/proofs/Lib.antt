-- What passing the writer's checks means, how long a bundle is, and the laws behind the writer.
pub mod Lengths
pub mod Passing
pub mod Splices
pub mod Turns
