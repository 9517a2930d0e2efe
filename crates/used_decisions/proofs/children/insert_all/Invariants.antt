use Rattle.std.proofs.Common.{take}
use Rattle.used_decisions.specs.Uses.{HaveMarked}
use Rattle.used_decisions.proofs.children.insert_all.Given as goal

abbrev pub invariant-loop-one : goal.invariant-loop-one
invariant-loop-one l = HaveMarked (take l.one-index l.placed) l.fn.levels l.levels
