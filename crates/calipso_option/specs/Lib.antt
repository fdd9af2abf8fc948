pub mod Crc
pub mod Calipso
pub mod Text
pub mod Fault
pub mod inside
