use Rattle.std.proofs.Common.{◌≡◌, ℕ, ◌<◌, [], get_or}
use Rattle.plan_changes.specs.Changes.{names_in_order}
use Rattle.plan_changes.proofs.changes.have_same_order.Given as goal

abbrev pub invariant-loop-k : goal.invariant-loop-k
invariant-loop-k l = (j : ℕ) → j < l.k → get_or (names_in_order l.old) j [] ≡ get_or (names_in_order l.new) j []
