pub mod Awaited
pub mod Grammar
pub mod Reading
pub mod Packet
pub mod Flow
