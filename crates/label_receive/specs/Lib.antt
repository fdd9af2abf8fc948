pub mod Steps
pub mod Incoming
pub mod Arrival
pub mod Range
pub mod Receive
pub mod Judged
pub mod Laws
