pub mod Extends
pub mod Versions
pub mod Seen
pub mod Kept
