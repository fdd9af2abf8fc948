pub mod Cats
pub mod Runs
pub mod Label
pub mod inside
pub mod octet_grammar
pub mod category_bitmap
