pub mod Plan
pub mod Board
pub mod inside
