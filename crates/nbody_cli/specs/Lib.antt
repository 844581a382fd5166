pub mod Status
pub mod Lines
pub mod Seen
pub mod Frames
pub mod Probes
pub mod Text
pub mod Serving
