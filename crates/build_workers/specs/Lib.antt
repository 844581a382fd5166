pub mod Shares
pub mod Working
pub mod Hands
