pub mod Within
pub mod Gathered
pub mod Loads
pub use Rattle.tt_infer.specs.Table
pub use Rattle.tt_infer.specs.Facts
