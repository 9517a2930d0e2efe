pub mod Names
pub mod Channels
pub mod Spelling
pub mod Reading
pub mod Words
