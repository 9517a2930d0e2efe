use Rattle.std.proofs.Common.{◌≡◌, ◌<◌, ℕ, length}
use Rattle.certificate.specs.Trees.{IsTree}
use Rattle.side_by_side.specs.Found.{side_at}
use Rattle.side_by_side.specs.Joined.{own_trees}
use Rattle.side_by_side.proofs.joined.starts.Given as goal

abbrev pub invariant-loop-k : goal.invariant-loop-k
invariant-loop-k l = record {
  count : length l.sides.items ≡ l.k;
  trees : (k : ℕ) → k < l.k → IsTree (own_trees l.certs k);
  each : (k : ℕ) → k < l.k → side_at l.sides.items k ≡ record { passed = 0; level = 0 };
}
