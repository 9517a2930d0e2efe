pub mod Appended
pub use Rattle.step_logs.proofs.Complete
pub use Rattle.step_logs.proofs.RuledOut
