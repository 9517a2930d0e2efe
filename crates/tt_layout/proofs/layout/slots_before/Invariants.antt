use Rattle.std.proofs.Common.{◌≡◌, ◌+◌, ◌*◌, ◌≤◌, sum_by, drop}
use Rattle.ttp_model.specs.Slots.{duration, nodes_before, offset}
use Rattle.ttp_model.specs.declared.limits.TheConstants.{MOST_DURATION}
use Rattle.tt_layout.proofs.layout.slots_before.Given as goal

abbrev pub invariant-loop-m : goal.invariant-loop-m
invariant-loop-m l = (l.total + sum_by (duration l.c l.caps) (nodes_before l.n (drop l.m-index l.order)) ≡ offset l.c l.order l.caps l.n) × (l.total ≤ l.m-index * MOST_DURATION)
