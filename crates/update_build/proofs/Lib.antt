pub mod Contracting
pub mod Editing
mod Staying
mod Thinning
mod Sweeping
mod WaysDown
mod Leaving
mod Removal
mod Sharing
mod Updating
