pub mod ScriptFile
pub mod Ends
pub mod Flow
pub mod Neighbours
pub mod Answer
