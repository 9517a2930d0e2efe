use Rattle.std.proofs.Common.{ℕ, ◌<◌}
use Rattle.sought_plans.specs.Known.{lo_of, top_of}
use Rattle.side_by_side.proofs.standing.first_unsent.Given as goal

abbrev pub invariant-loop-m : goal.invariant-loop-m
invariant-loop-m l = (m : ℕ) → m < l.m → lo_of l.facts.known m < top_of l.facts.known m
