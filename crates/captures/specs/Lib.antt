pub mod Frame
pub mod CaptureFile
pub mod Reader
pub mod Written
pub mod inside
pub mod Output
