pub mod Planned
pub mod Names
pub mod Dispatch
pub mod Units
pub mod Attributes
pub mod Figures
pub mod Changes
