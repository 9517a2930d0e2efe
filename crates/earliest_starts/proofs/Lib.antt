pub mod Rings
pub mod Settling
pub mod Arrivals
pub mod Sound
pub mod Made
pub mod FrameLoads
pub mod Listed
