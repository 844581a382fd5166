pub mod Kept
pub mod Centred
pub mod Filling
