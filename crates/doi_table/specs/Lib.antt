pub mod Pairs
pub mod Definition
pub mod Translation
pub mod GoesBy
pub mod Table
pub mod inside
