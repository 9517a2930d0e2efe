pub mod Telling
pub mod Mistaken
pub mod Plans
pub mod Instances
pub mod Certificates
pub mod Explained
