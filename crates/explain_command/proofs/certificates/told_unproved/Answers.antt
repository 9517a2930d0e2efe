use Rattle.explain_command.proofs.certificates.told_unproved.Goals as goal

pub cert_reason-requires-clause-judged : goal.cert_reason-requires-clause-judged
cert_reason-requires-clause-judged c = let f = c.requires.fault in (f.0, f.1.spelled, f.2)
