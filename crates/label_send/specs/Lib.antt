pub mod Outgoing
pub mod Room
pub mod Send
pub mod Answer
pub mod Laws
pub mod NoOption
pub mod inside
