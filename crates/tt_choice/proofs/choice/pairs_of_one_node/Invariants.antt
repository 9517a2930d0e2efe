use Rattle.std.proofs.Common.{◌≡◌, ◌*◌, ◌≤◌}
use Rattle.ttp_model.specs.declared.limits.TheConstants.{MOST_PROCESSES}
use Rattle.ttp_model.specs.Totals.{total}
use Rattle.tt_choice.specs.Choice.{unordered_below}
use Rattle.tt_choice.specs.Branches.{open_choice}
use Rattle.tt_choice.proofs.choice.pairs_of_one_node.Given as goal

abbrev pub invariant-loop-p : goal.invariant-loop-p
invariant-loop-p l =
    (l.pairs ≡ total (unordered_below l.instance (open_choice l.instance 0)) l.p) × (l.pairs ≤ l.p * MOST_PROCESSES)
