pub mod Ranges
pub mod Motions
pub mod Taken
