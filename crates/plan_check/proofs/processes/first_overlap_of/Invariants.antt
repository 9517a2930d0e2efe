use Rattle.std.proofs.Common.{◌<◌, ℕ}
use Rattle.ttp_model.specs.Plans.{AreApart}
use Rattle.plan_check.proofs.processes.first_overlap_of.Given as goal

abbrev pub invariant-loop-q : goal.invariant-loop-q
invariant-loop-q l = (k : ℕ) → l.p < k → k < l.q → AreApart l.instance l.plan l.p k
