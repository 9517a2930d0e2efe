pub mod Intervals
pub mod Gathered
pub mod Closing
