use Rattle.std.proofs.Common.{◌≡◌, ◌<◌, ◌≤◌, ℕ}
use Rattle.certificate.specs.Trees.{preorder}
use Rattle.side_by_side.specs.Joined.{certificate_at}
use Rattle.side_by_side.specs.Found.{side_at}
use Rattle.side_by_side.specs.Passing.{IsPassed, flag_at}
use Rattle.side_by_side.proofs.passing.pass_all.Given as goal

abbrev pub invariant-loop-k : goal.invariant-loop-k
invariant-loop-k l = record {
  each : (k : ℕ) → k < l.k
      → IsPassed (preorder (certificate_at l.certs k).tree) l.depth (flag_at l.flags k) (side_at l.fn.sides k) (side_at l.sides k);
  rest : (k : ℕ) → l.k ≤ k → side_at l.sides k ≡ side_at l.fn.sides k;
}
