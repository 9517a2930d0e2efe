pub mod FrameEntries
pub mod TableParts
