pub mod Exports
pub mod Loads
pub mod Flows
