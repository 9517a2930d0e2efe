use Rattle.std.proofs.Common.{◌^◌, ◌-◌, ◌<◌, ◌≤◌, length}
use Rattle.step_logs.specs.Leaves.{ClosesSharply}
use Rattle.path_bounds.proofs.goals.raised.Given as goal

abbrev pub invariant-halving : goal.invariant-halving
invariant-halving l = record {
  closes : ClosesSharply l.instance l.choice (record { goal = l.best.0; steps = l.best.1.items });
  few : length l.best.1.items < 2 ^ 32;
  least : l.low ≤ l.best.0;
  below : l.best.0 < l.high;
  most : l.high ≤ l.top;
}

abbrev pub decreases-halving : goal.decreases-halving
decreases-halving l = l.high - l.best.0
