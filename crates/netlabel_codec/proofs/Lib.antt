mod Fills
mod Sets
mod Crowds
