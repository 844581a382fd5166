pub mod Seen
pub mod Ends
pub mod Finding
pub mod Publishing
pub mod Inserting
pub mod Copying
pub mod Merging
