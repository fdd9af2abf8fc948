pub mod Doi
pub mod List
pub mod Pairs
pub mod Tags
pub mod MapProtocol
pub mod Ranges
pub mod Addresses
pub mod inside
