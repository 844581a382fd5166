mod Publishes
mod Dealt
