use Rattle.std.proofs.Common.{take}
use Rattle.used_decisions.specs.Uses.{HaveMarked}
use Rattle.used_decisions.proofs.uses.mark_places.Given as goal

abbrev pub invariant-loop-placed : goal.invariant-loop-placed
invariant-loop-placed l = HaveMarked (take l.placed-index l.placed-items) l.fn.levels l.levels
