pub mod Contracting
pub mod Dealing
pub mod Sweeping
pub mod Moving
pub mod Staying
pub mod Updating
