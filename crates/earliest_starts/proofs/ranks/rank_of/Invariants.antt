use Rattle.std.proofs.Common.{◌≡◌, ◌≤◌, if◌then◌else◌}
use Rattle.ttp_model.specs.Totals.{total}
use Rattle.tt_choice.specs.Choice.{is_before}
use Rattle.earliest_starts.proofs.ranks.rank_of.Given as goal

abbrev pub invariant-loop-q : goal.invariant-loop-q
invariant-loop-q l = (l.rank ≡ total (λ q. if is_before l.choice q l.p then 1 else 0) l.q) × (l.rank ≤ l.q)
