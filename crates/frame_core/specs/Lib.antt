pub mod Frames
pub mod Pushes
pub mod Shares
pub mod Building
pub mod Engines
pub mod Held
pub mod Next
