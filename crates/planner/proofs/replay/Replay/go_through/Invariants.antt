use Rattle.std.proofs.Common.{◌≡◌, take}
use Rattle.certificate.specs.Trees.{preorder}
use Rattle.certificate.specs.Lines.{line_of}
use Rattle.tree_check.specs.Faults.{told_line}
use Rattle.planner.specs.Replay.{GoesThrough}
use Rattle.planner.proofs.replay.Replay.go_through.Given as goal

abbrev pub invariant-loop-k : goal.invariant-loop-k
invariant-loop-k l = record {
  through : GoesThrough l.instance l.initial.self l.self (take l.k (preorder l.cert.tree));
  line : l.line ≡ told_line (line_of (preorder l.cert.tree) l.k);
}
