use Rattle.std.proofs.Common.{◌-◌}
use Rattle.tt_settle.specs.Settling.{IsTried, RestsBefore}
use Rattle.tt_settle.proofs.passes.go_earlier.Given as goal

abbrev pub invariant-loop-from : goal.invariant-loop-from
invariant-loop-from l = IsTried l.instance l.fn.plan (RestsBefore l.instance l.from) l.plan l.moved

abbrev pub decreases-loop-from : goal.decreases-loop-from
decreases-loop-from l = l.horizon - l.from
