pub mod Protocol
pub mod Longest
pub mod Addresses
pub mod Domains
pub mod Statics
pub mod inside
pub mod address_text
