use Rattle.std.proofs.Common.{◌≡◌, ◌++◌, take}
use Rattle.std.specs.List.{flat_map}
use Rattle.plan_format.proofs.Spaced.{spaced}
use Rattle.plan_format.proofs.printing.push_order.Given as goal

abbrev pub invariant-loop-n : goal.invariant-loop-n
invariant-loop-n l = l.text.items ≡ l.initial.text.items ++ flat_map (spaced l.instance) (take l.n-index l.order)
