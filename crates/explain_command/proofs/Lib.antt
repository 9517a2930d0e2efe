pub mod Certified
mod Told
