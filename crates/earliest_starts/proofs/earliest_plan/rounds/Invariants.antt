use Rattle.std.proofs.Common.{◌≡◌, take}
use Rattle.earliest_starts.proofs.earliest_plan.rounds.Given as goal

abbrev pub invariant-loop-m : goal.invariant-loop-m
invariant-loop-m l = l.rounds.items ≡ take l.m l.choice.lo
