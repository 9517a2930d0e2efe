use Rattle.std.proofs.Common.{◌≡◌, ◌≤◌, take}
use Rattle.certificate.specs.ManyLines.{AreLines, BeginLines}
use Rattle.certificate.proofs.many_lines.lines_by_bytes.Given as goal

abbrev pub invariant-loop-k : goal.invariant-loop-k
invariant-loop-k l = record {
  within : l.ends ≤ l.k;
  few : l.ends ≤ l.count;
  begun : BeginLines l.ends (take l.k l.held);
  whole : l.ends ≡ l.count → AreLines l.count (take l.k l.held);
}
