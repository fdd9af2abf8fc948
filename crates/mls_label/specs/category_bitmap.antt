pub mod Bitmap
pub mod inside
