mod Inserting
pub mod Laws
