use Rattle.std.proofs.Common.{◌*◌, ◌<◌, ◌≤◌, take}
use Rattle.certificate.specs.ManyLines.{BeginLines}
use Rattle.certificate.proofs.many_lines.runs_before.Given as goal

abbrev pub invariant-loop-k : goal.invariant-loop-k
invariant-loop-k l = record {
  few : l.ends ≤ l.k * 64;
  left : l.ends < l.count;
  begun : BeginLines l.ends (take (l.k * 64) l.held);
}
