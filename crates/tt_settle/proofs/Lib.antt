pub mod OneNumber
pub mod Trying
pub mod EarlierStarts
pub mod EarlierRounds
pub mod Swapping
pub mod Passing
pub mod Turning
pub mod Exchanging
