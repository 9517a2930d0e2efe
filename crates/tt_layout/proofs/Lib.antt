pub mod Bounds
pub mod FirstRounds
pub mod SlotTimes
pub mod CycleBounds
pub mod Ranges
