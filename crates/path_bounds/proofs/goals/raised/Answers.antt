use Rattle.std.proofs.Common.{arith}
use Rattle.path_bounds.proofs.goals.raised.Goals as goal

pub halving-preserved-in-Some : goal.halving-preserved-in-Some
halving-preserved-in-Some c = record {
  closes = rw c.in-Some.is at c.in_ok-steps.ensures.closes;
  few = rw c.in-Some.is at c.in_ok-steps.ensures.few;
  least = omega (arith, c.halving.invariant.least);
  below = omega (arith, c.halving-test.true, c.halving.invariant.below);
  most = c.halving.invariant.most;
}
