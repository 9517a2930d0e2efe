pub mod Rings
pub mod Waits
pub mod Loads
pub mod Late
pub mod Mirrors
pub mod Orders
pub mod Premises
