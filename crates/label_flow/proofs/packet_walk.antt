pub mod Lengths
pub mod Walks
pub mod OneWay
pub mod ByVersions
pub mod NoOption
pub mod Told
pub mod Law
