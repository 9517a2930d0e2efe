pub mod Again
pub mod Unrollings
pub mod Repeatings
pub mod LinesAdded
pub mod CycleParts
pub mod PlanReads
