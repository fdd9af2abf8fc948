pub mod Labels
pub mod Sizes
pub mod Packets
pub mod Captures
pub mod Law
pub mod Rows
