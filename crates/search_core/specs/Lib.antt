pub mod World
pub mod Turns
pub mod Steps
pub mod Bounds
pub mod Ledger
pub mod Worked
