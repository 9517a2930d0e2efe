use Rattle.std.proofs.Common.{◌≡◌, take}
use Rattle.sought_plans.proofs.known.fill_least.Given as goal

abbrev pub invariant-loop-m : goal.invariant-loop-m
invariant-loop-m l = l.rounds.items ≡ take l.m l.choice.lo
