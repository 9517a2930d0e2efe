pub mod Shown
pub mod Lists
