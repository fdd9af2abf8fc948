pub mod Covered
pub mod Uncovered
pub mod Climbs
pub mod Climbed
pub mod Lines
pub mod Cover
pub mod CoveredFlow
pub mod Told
