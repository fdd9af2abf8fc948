pub mod File
pub mod Source
pub mod Node
pub mod Feed
