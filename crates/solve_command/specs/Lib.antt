pub mod Beside
pub mod Faults
pub mod Kept
pub mod Patience
pub mod Continued
pub use Rattle.planner.specs.Onward
pub mod Telling
pub mod Solved
