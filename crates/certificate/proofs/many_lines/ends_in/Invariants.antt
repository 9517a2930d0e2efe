use Rattle.std.proofs.Common.{◌≤◌, take}
use Rattle.certificate.specs.ManyLines.{BeginLines}
use Rattle.certificate.proofs.many_lines.ends_in.Given as goal

abbrev pub invariant-loop-k : goal.invariant-loop-k
invariant-loop-k l = record {
  few : l.ends ≤ l.k;
  begun : BeginLines l.ends (take l.k l.text);
}
