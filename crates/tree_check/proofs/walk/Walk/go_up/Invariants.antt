use Rattle.std.proofs.Common.{List, length}
use Rattle.ttp_model.specs.Instance.{Instance}
use Rattle.tt_choice.specs.Choice.{Choice}
use Rattle.tree_check.specs.Turns.{IsWalk}
use Rattle.tree_check.proofs.walk.Walk.go_up.Given as goal

abbrev pub invariant-turns : goal.invariant-turns
invariant-turns l = (i : Instance) (left : List Choice) → IsWalk i l.fn.self left → IsWalk i l.self left

abbrev pub decreases-turns : goal.decreases-turns
decreases-turns l = length l.self.turns.items
