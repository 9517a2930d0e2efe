use Rattle.std.proofs.Common.{◌≡◌}
use Rattle.certificate.specs.Lines.{line_of}
use Rattle.tree_check.specs.Faults.{told_line}
use Rattle.side_by_side.proofs.telling.line_at.Given as goal

abbrev pub invariant-loop-k : goal.invariant-loop-k
invariant-loop-k l = l.line ≡ told_line (line_of l.nodes l.k)
