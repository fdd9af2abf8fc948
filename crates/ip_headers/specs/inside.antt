pub mod Walk
pub mod View
pub mod Write
pub mod Modulo
pub mod Swap
