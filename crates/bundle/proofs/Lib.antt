-- What passing the checks of a bundle means, and the laws behind the calls.
pub mod Passing
pub mod Reading
pub mod Steps
pub mod Bodies
pub mod Columns
pub mod Meaning
pub mod Exactly
pub mod Holds
