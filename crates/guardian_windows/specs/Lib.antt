pub mod Windows
pub mod Clocks
pub mod Text
pub use Rattle.tt_layout.specs.Instance
pub use Rattle.tt_layout.specs.Plans
pub use Rattle.tt_layout.specs.Cycle
