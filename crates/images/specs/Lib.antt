pub mod Packets
pub mod ReadOff
