pub mod Streams
pub mod Waiting
pub mod UnderWay
pub use Rattle.ttp_model.specs.Delays
pub use Rattle.certificate.specs.Cert
pub use Rattle.tree_check.specs.Proofs
