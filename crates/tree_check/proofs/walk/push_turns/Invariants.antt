use Rattle.std.proofs.Common.{◌≡◌, ◌++◌, length, reverse}
use Rattle.tree_check.specs.Turns.{turns_to}
use Rattle.tree_check.proofs.walk.push_turns.Given as goal

abbrev pub invariant-loop-decision : goal.invariant-loop-decision
invariant-loop-decision l =
    turns_to l.decisions.items ++ reverse l.turns.items ≡ turns_to l.initial.decisions.items ++ reverse l.initial.turns.items

abbrev pub decreases-loop-decision : goal.decreases-loop-decision
decreases-loop-decision l = length l.decisions.items
