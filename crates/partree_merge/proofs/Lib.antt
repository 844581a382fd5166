mod Alike
mod Holders
mod Merges
mod Filled
mod Done
mod Opened
