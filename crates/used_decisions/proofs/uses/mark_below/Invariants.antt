use Rattle.used_decisions.proofs.Marked.{AreTold}
use Rattle.tt_choice.specs.Kept.{fixes_below}
use Rattle.used_decisions.proofs.uses.mark_below.Given as goal

abbrev pub invariant-loop-n : goal.invariant-loop-n
invariant-loop-n l = AreTold (fixes_below l.path.instance) l.path.turns l.fn.levels l.levels l.n
