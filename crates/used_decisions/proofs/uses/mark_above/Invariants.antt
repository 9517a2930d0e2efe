use Rattle.used_decisions.proofs.Marked.{AreTold}
use Rattle.tt_choice.specs.Kept.{fixes_above}
use Rattle.used_decisions.proofs.uses.mark_above.Given as goal

abbrev pub invariant-loop-n : goal.invariant-loop-n
invariant-loop-n l = AreTold fixes_above l.path.turns l.fn.levels l.levels l.n
