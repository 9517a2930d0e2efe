pub mod Layout
pub mod Bounds
pub mod Cycle
pub use Rattle.ttp_model.specs.Instance
pub use Rattle.ttp_model.specs.Rules
pub use Rattle.ttp_model.specs.Slots
pub use Rattle.ttp_model.specs.Plans
pub use Rattle.ttp_model.specs.Delays
