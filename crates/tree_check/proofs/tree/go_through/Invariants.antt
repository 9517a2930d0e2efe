use Rattle.std.proofs.Common.{◌≡◌}
use Rattle.certificate.specs.Trees.{preorder}
use Rattle.certificate.specs.Lines.{line_of}
use Rattle.tree_check.specs.Faults.{told_line}
use Rattle.tree_check.proofs.Nodes.{IsGone}
use Rattle.tree_check.proofs.tree.go_through.Given as goal

abbrev pub invariant-loop-k : goal.invariant-loop-k
invariant-loop-k l = record {
  gone : IsGone l.instance l.cert.low (preorder l.cert.tree) l.k l.walk;
  room : l.room.instance ≡ l.instance;
  line : l.line ≡ told_line (line_of (preorder l.cert.tree) l.k);
}
