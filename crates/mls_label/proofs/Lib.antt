pub mod Cats
pub mod Places
pub mod Runs
pub mod Splice
pub mod Inside
pub mod Law
