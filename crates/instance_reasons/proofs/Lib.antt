pub mod Items
pub mod Filling
pub mod Failing
pub mod Finding
pub mod Missing
pub mod Walking
pub mod Again
pub mod Listing
mod Telling
mod Large
