pub mod Continued
pub mod Solving
pub mod ToldBounds
pub mod Unread
pub mod Untils
