use Rattle.std.proofs.Common.{ℕ, ◌<◌, IsFalse}
use Rattle.ttp_model.specs.Instance.{link_at}
use Rattle.tt_choice.specs.Choice.{is_before}
use Rattle.earliest_starts.proofs.ranks.turned_link.Given as goal

abbrev pub invariant-loop-l : goal.invariant-loop-l
invariant-loop-l l = (k : ℕ) → k < l.l → IsFalse (is_before l.choice (link_at l.instance k).after (link_at l.instance k).before)
