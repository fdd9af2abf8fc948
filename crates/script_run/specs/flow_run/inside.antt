pub mod Source
pub mod Output
pub mod Judged
pub mod Taken
pub mod Board
pub mod Flown
pub mod Feed
