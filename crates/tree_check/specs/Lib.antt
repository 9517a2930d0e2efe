pub mod Proofs
pub mod Faults
pub mod Turns
pub mod Seen
pub use Rattle.ttp_model.specs.Delays
pub use Rattle.tt_infer.specs.Leaves
pub use Rattle.certificate.specs.Cert
