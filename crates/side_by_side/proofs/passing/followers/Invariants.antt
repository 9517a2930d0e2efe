use Rattle.std.proofs.Common.{◌≡◌, ◌<◌, ◌↔◌, ℕ, IsTrue, length}
use Rattle.certificate.specs.Trees.{preorder}
use Rattle.side_by_side.specs.Joined.{certificate_at}
use Rattle.side_by_side.specs.Found.{side_at, top_of}
use Rattle.side_by_side.specs.Passing.{GoesOn, flag_at}
use Rattle.side_by_side.proofs.passing.followers.Given as goal

abbrev pub invariant-loop-k : goal.invariant-loop-k
invariant-loop-k l = record {
  count : length l.flags.items ≡ l.k;
  each : (k : ℕ) → k < l.k → IsTrue (flag_at l.flags.items k)
      ↔ GoesOn l.leads (top_of (preorder (certificate_at l.certs k).tree) (side_at l.sides k) l.depth);
}
