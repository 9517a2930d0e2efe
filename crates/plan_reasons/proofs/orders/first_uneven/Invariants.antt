use Rattle.std.proofs.Common.{◌≡◌, ℕ, ◌<◌, [], get_or, false, not}
use Rattle.std.specs.Prelude.{◌==◌}
use Rattle.ttp_model.specs.declared.error.Part.TheVariants.{Nodes}
use Rattle.ttp_model.specs.Names.{names_in}
use Rattle.plan_reasons.specs.Orders.{times_named}
use Rattle.plan_reasons.proofs.orders.first_uneven.Given as goal

abbrev pub invariant-loop-n : goal.invariant-loop-n
invariant-loop-n l = (j : ℕ) → j < l.n → not (times_named l.line (get_or (names_in l.instance Nodes) j []) == 1) ≡ false
