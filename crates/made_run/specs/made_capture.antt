pub mod Number
pub mod Packet
pub mod Capture
pub mod Maker
