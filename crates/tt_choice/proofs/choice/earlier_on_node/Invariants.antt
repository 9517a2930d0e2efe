use Rattle.std.proofs.Common.{◌≡◌, ◌≤◌, if◌then◌else◌}
use Rattle.ttp_model.specs.Totals.{total}
use Rattle.tt_choice.specs.Choice.{is_unordered}
use Rattle.tt_choice.specs.Branches.{open_choice}
use Rattle.tt_choice.proofs.choice.earlier_on_node.Given as goal

abbrev pub invariant-loop-q : goal.invariant-loop-q
invariant-loop-q l =
    (l.earlier ≡ total (λ q. if is_unordered l.instance (open_choice l.instance 0) l.p q then 1 else 0) l.q)
    × (l.earlier ≤ l.q)
