pub mod Names
pub mod Used
