use Rattle.std.proofs.Common.{ℕ, ◌<◌, ◌≤◌}
use Rattle.sought_plans.specs.Dominance.{IsSentTo}
use Rattle.sought_plans.specs.Known.{top_of}
use Rattle.certificate_reasons.proofs.time_lacks.no_round_to.Given as goal

abbrev pub invariant-loop-m : goal.invariant-loop-m
invariant-loop-m l = (m : ℕ) → m < l.m → IsSentTo l.facts.instance l.p m → 1 ≤ top_of l.facts.known m
