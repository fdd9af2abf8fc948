pub mod Name
pub mod Number
pub mod Address
pub mod Prefix
pub mod inside
