pub mod Ranks
pub mod Longests
pub mod Lookups
pub mod Rules
pub mod Defaults
pub mod Interfaces
pub mod Counted
pub mod Law
