pub mod Slot
pub mod Form
pub mod Line
pub mod Told
pub mod Written
pub mod inside
