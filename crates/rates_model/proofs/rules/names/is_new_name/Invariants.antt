use Rattle.std.proofs.Common.{◌≢◌, ◌<◌, ℕ, slice_index_or}
use Rattle.rates_model.proofs.rules.names.is_new_name.Given as goal

abbrev pub invariant-loop-k : goal.invariant-loop-k
invariant-loop-k g l = (d : g.row.T.Denot) (j : ℕ) → j < l.k → g.T.Named.name_of (slice_index_or l.items j d) ≢ g.T.Named.name_of (slice_index_or l.items l.n d)
