use Rattle.std.proofs.Common.{◌≡◌, ◌+◌, take, map}
use Rattle.sought_plans.proofs.known.fill_late.Given as goal

abbrev pub invariant-loop-m : goal.invariant-loop-m
invariant-loop-m l = l.rounds.items ≡ map (λ r. r + 1) (take l.m l.choice.hi)
