pub mod Meetings
pub mod Lines
pub mod Words
