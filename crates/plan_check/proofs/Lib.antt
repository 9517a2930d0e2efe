pub mod Validity
pub mod OverfullFrames
