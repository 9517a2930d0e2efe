pub mod Longest
pub mod Walks
pub mod Messages
pub mod Earliest
pub mod Frames
pub mod Ends
pub use Rattle.tt_layout.specs.Layout
pub use Rattle.tt_moves.specs.Earlier
