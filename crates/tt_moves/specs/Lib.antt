pub mod Alike
pub mod Earlier
