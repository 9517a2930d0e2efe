use Rattle.std.proofs.Common.{◌≡◌, ◌*◌, ◌≤◌}
use Rattle.ttp_model.specs.declared.limits.TheConstants.{MOST_DURATION}
use Rattle.ttp_model.specs.Totals.{total}
use Rattle.tt_choice.specs.Extremes.{dur_most}
use Rattle.tt_choice.proofs.choice.Choice.round_most.Given as goal

abbrev pub invariant-loop-n : goal.invariant-loop-n
invariant-loop-n l = (l.sum ≡ total (dur_most l.instance l.self) l.n) × (l.sum ≤ l.n * MOST_DURATION)
