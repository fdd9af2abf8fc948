pub mod Option
pub mod Protocol
pub mod Write
