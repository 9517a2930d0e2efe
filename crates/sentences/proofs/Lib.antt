pub mod Growing
pub mod Listing
