pub mod Choosing
pub mod ClapLine
pub mod PlainWords
