use Rattle.std.proofs.Common.{List, take}
use Rattle.tree_check.specs.Seen.{ReadLeaf}
use Rattle.cert_check.specs.Waiting.{AreRead}
use Rattle.cert_check.proofs.judge.told_before.Given as goal

abbrev pub invariant-loop-k : goal.invariant-loop-k
invariant-loop-k l = (rs : List ReadLeaf) × AreRead (take l.k l.leaves) rs
