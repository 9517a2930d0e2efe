pub mod AgeCuts
pub mod Halves
pub mod Shown
pub mod LateCuts
pub mod MarginCuts
mod Bounds
pub mod Shortest
pub mod Texts
pub mod Narrowed
pub mod Decided
pub mod Told
pub use Rattle.planner.proofs.AnswerVersions
