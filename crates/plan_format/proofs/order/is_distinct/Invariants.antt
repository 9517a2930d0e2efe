use Rattle.std.proofs.Common.{◌≡◌, drop}
use Rattle.plan_format.specs.Reading.{is_distinct}
use Rattle.plan_format.proofs.order.is_distinct.Given as goal

abbrev pub invariant-loop-k : goal.invariant-loop-k
invariant-loop-k l = is_distinct (drop l.k l.order) ≡ is_distinct l.order
