use Rattle.std.proofs.Common.{◌≡◌, reverse, vec_len}
use Rattle.certificate.specs.Opened.{still_due}
use Rattle.certificate.proofs.nodes.take_due.Given as goal

abbrev pub invariant-open : goal.invariant-open
invariant-open l = still_due (reverse l.fn.due.items) ≡ still_due (reverse l.due.items)

abbrev pub decreases-open : goal.decreases-open
decreases-open l = vec_len l.due
