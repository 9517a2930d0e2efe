pub mod Written
pub mod Consumed
pub mod StatedOnce
pub mod Outcomes
mod WrittenBeside
