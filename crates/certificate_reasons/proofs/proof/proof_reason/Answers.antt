-- The text spells one certificate alone.
use Rattle.certificate_reasons.proofs.proof.proof_reason.Goals as goal

pub tree_proof-requires : goal.tree_proof-requires
tree_proof-requires c = rw (c.in_ok-cert.ensures.only c.requires.0 c.requires.1) at c.requires.2

pub returns : goal.returns
returns c = (c.in_ok-cert.cert, c.in_ok-cert.ensures.spelled, c.in_ok-reason.ensures)
