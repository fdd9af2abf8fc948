pub mod Header
pub mod Record
pub mod Capture
pub mod Reader
pub mod Ip
pub mod Written
pub mod inside
