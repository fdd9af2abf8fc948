pub mod Scripts
pub mod Answering
pub mod Comparing
pub mod Flows
pub mod Reading
pub mod Law
