pub mod Walks
pub mod Starting
pub mod Rooms
pub mod Listed
pub mod Filters
pub mod Silent
