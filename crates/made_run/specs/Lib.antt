pub mod Network
pub mod Verdict
pub mod Ends
pub mod inside
pub mod made_capture
