pub mod Fillings
pub mod Bounds
