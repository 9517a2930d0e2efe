use Rattle.std.proofs.Common.{◌≡◌, length}
use Rattle.good_plan.proofs.shelf.Shelf.of.Given as goal

abbrev pub invariant-loop : goal.invariant-loop
invariant-loop l = length l.tables.items ≡ l.counter
