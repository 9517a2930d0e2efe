use Rattle.std.proofs.Common.{take}
use Rattle.sentences.specs.Lists.{AreTold}
use Rattle.schedule_exports.specs.Loads.{IsTurn}
use Rattle.schedule_exports.proofs.loads.turns_of.Given as goal

abbrev pub invariant-loop-row : goal.invariant-loop-row
invariant-loop-row l = AreTold (IsTurn l.instance l.plan) (take l.row-index l.rows) l.turns.items
