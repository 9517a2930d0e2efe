use Rattle.certificate_reasons.proofs.Reached.{IsReached}
use Rattle.certificate_reasons.proofs.certs.tree_reason.Given as goal

abbrev pub invariant-loop-k : goal.invariant-loop-k
invariant-loop-k l = IsReached l.instance l.cert l.at l.fault l.k l.walk l.line
