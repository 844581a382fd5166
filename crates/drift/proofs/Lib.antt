pub mod Axes
pub mod Places
pub mod Turning
pub mod Shifts
pub mod Beginnings
