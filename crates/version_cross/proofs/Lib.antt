pub mod Words
pub mod Segments
pub mod Packets
pub mod Causes
pub mod Crossing
pub mod Exits
pub mod Worked
pub mod Law
