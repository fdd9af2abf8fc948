pub mod Reading
pub mod Captures
pub mod OfRun
pub mod Found
pub mod Ending
pub mod Law
