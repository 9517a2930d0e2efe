pub mod Multiples
pub mod LaterJobs
pub mod RuleOrder
pub mod Periods
pub mod Elements
pub mod Rooms
pub mod Shares
pub mod FinerParts
