pub mod Streams
pub mod Endings
pub mod Lines
pub mod Outcomes
pub mod Instances
pub mod Writing
pub mod Wording
