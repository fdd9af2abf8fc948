pub mod Body
pub mod Tag
pub mod Text
pub mod inside
