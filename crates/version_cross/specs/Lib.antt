pub mod Segment
pub mod Cause
pub mod Checksum
pub mod Cross
pub mod Laws
