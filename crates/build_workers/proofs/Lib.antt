mod Ordering
mod Sharing
mod Dealing
mod Taken
pub mod Laws
