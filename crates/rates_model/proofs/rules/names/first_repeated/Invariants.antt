use Rattle.std.proofs.Common.{◌≢◌, ◌<◌, ℕ, slice_index_or}
use Rattle.rates_model.proofs.rules.names.first_repeated.Given as goal

abbrev pub invariant-loop-n : goal.invariant-loop-n
invariant-loop-n g l = (d : g.row.T.Denot) (k : ℕ) → k < l.n → (j : ℕ) → j < k → g.T.Named.name_of (slice_index_or l.items j d) ≢ g.T.Named.name_of (slice_index_or l.items k d)
