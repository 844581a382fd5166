pub mod Merging
pub mod Filling
