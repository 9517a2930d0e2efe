use Rattle.std.proofs.Common.{◌≡◌, ◌*◌, ◌≤◌}
use Rattle.ttp_model.specs.declared.limits.TheConstants.{MOST_BYTES}
use Rattle.ttp_model.specs.Plans.{bytes_on}
use Rattle.ttp_model.specs.Totals.{total}
use Rattle.plan_facts.proofs.frames.load_on.Given as goal

abbrev pub invariant-loop-m : goal.invariant-loop-m
invariant-loop-m l = (l.load ≡ total (bytes_on l.instance l.plan l.n l.r l.c) l.m) × (l.load ≤ l.m * MOST_BYTES)
