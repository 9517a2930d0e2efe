use Rattle.std.proofs.Common.{◌≡◌, ◌+◌, ◌*◌, ◌≤◌, sum_by, drop}
use Rattle.ttp_model.specs.Slots.{nodes_before}
use Rattle.ttp_model.specs.declared.limits.TheConstants.{MOST_DURATION}
use Rattle.tt_choice.specs.Extremes.{dur_least, offset_least}
use Rattle.tt_choice.proofs.choice.Choice.offset_least.Given as goal

abbrev pub invariant-loop-m : goal.invariant-loop-m
invariant-loop-m l = (l.sum + sum_by (dur_least l.instance l.self) (nodes_before l.n (drop l.m-index l.self.prefix)) ≡ offset_least l.instance l.self l.n) × (l.sum ≤ l.m-index * MOST_DURATION)
