pub mod Bits
pub mod Octets
pub mod Places
pub mod Words
pub mod Turns
pub mod Written
pub mod Marks
pub mod Law
