pub mod Takings
pub mod Texts
mod MemorySources
