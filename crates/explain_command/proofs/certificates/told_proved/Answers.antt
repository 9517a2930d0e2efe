use Rattle.explain_command.proofs.certificates.told_proved.Goals as goal

pub proof_reason-requires : goal.proof_reason-requires
proof_reason-requires c = let b = c.requires in (b.cert, b.has_certificate.spelled, b.proves)
