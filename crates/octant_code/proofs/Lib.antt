pub mod Keys
pub mod InCube
pub mod Apart
pub mod Roots
pub mod Distances
mod Decimals
pub mod SeenPoints
pub mod Nested
mod Levels
