pub mod Figures
pub mod States
