use Rattle.std.proofs.Common.{◌<◌, ℕ, slice_index_or}
use Rattle.ttp_model.specs.Rules.{IsName}
use Rattle.rates_model.proofs.rules.names.first_unnamed.Given as goal

abbrev pub invariant-loop-k : goal.invariant-loop-k
invariant-loop-k g l = (d : g.row.T.Denot) (j : ℕ) → j < l.k → IsName (g.T.Named.name_of (slice_index_or l.items j d))
