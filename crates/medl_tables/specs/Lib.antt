pub mod Rows
pub mod Medl
pub mod Text
pub use Rattle.tt_layout.specs.Instance
pub use Rattle.tt_layout.specs.Plans
pub use Rattle.tt_layout.specs.Cycle
pub mod Worked
