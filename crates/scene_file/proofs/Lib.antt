pub mod BodyLists
pub mod ReadBack
pub mod Records
pub mod Scenes
pub mod Gatherings
pub mod Making
mod Shifts
mod Finding
mod Meetings
pub mod PassingRule
