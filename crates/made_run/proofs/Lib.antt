pub mod Received
pub mod Law
pub mod Commands
pub mod Round
pub mod Sends
pub mod Steps
pub mod Fetching
pub mod Making
