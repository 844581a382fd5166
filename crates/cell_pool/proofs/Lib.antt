mod Regions
pub mod Laws
