pub use Rattle.tt_layout.specs.Instance
pub use Rattle.tt_layout.specs.Rules
pub use Rattle.tt_layout.specs.Plans
pub use Rattle.ttp_model.specs.Lists
pub use Rattle.ttp_model.specs.Delays
pub use Rattle.ttp_model.specs.Faults
