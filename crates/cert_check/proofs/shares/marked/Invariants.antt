use Rattle.std.proofs.Common.{◌≡◌, length}
use Rattle.cert_check.specs.Waiting.{MarksOnly}
use Rattle.cert_check.proofs.shares.marked.Given as goal

abbrev pub invariant-loop-k : goal.invariant-loop-k
invariant-loop-k l = record {
  long : length l.marks.items ≡ l.count;
  only : MarksOnly l.places l.count l.marks.items;
}
