pub mod Plain
pub mod Line
pub mod Choices
pub mod Options
