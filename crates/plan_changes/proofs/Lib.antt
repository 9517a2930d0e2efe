pub mod EitherNames
pub mod Fates
pub mod Itself
pub mod Loaded
pub mod Once
pub mod Places
pub mod SlotOrder
