use Rattle.std.proofs.Common.{◌≢◌, ◌<◌, ℕ, slice_index_or, slice_index}
use Rattle.ttp_model.specs.Instance.{no_process}
use Rattle.ttp_model.proofs.rules.conditions.are_away.Given as goal

abbrev pub invariant-loop-q : goal.invariant-loop-q
invariant-loop-q l = (k : ℕ) → k < l.q-index → (slice_index_or l.processes (slice_index l.receivers k) no_process).node ≢ l.node
