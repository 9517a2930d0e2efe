pub mod Wider
pub mod Alike
pub mod Said
pub mod Slots
pub mod Law
pub mod Branches
