pub mod Hop
pub mod Way
pub mod Slot
pub mod Named
