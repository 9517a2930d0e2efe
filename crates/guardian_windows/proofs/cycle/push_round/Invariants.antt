use Rattle.std.proofs.Common.{◌≡◌, ◌+◌, ◌*◌, ◌≤◌, ◌++◌, take, map, sum_by}
use Rattle.ttp_model.specs.Slots.{duration, round_length}
use Rattle.ttp_model.specs.declared.limits.TheConstants.{MOST_DURATION, MOST_ROUND}
use Rattle.guardian_windows.specs.Windows.{window_of}
use Rattle.guardian_windows.proofs.cycle.push_round.Given as goal

abbrev pub invariant-loop-n : goal.invariant-loop-n
invariant-loop-n l = record {
  items : l.windows.items ≡ l.initial.windows.items ++ map (window_of l.instance l.plan l.round) (take l.n-index l.plan.order);
  start : l.start ≡ l.round * round_length l.instance.cluster l.plan.caps + sum_by (duration l.instance.cluster l.plan.caps) (take l.n-index l.plan.order);
  bound : l.start ≤ l.round * MOST_ROUND + l.n-index * MOST_DURATION;
}
