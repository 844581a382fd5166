pub mod Walks
pub mod Flat
pub mod Least
pub mod Short
pub mod Cubes
pub mod Placed
pub mod Views
pub mod Parts
