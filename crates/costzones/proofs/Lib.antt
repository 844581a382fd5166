mod Ranges
mod Openings
mod Gatherings
mod Descents
mod ZoneCuts
mod ZoneLists
