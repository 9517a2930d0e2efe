use Rattle.std.proofs.Common.{◌≢◌, ℕ, ◌<◌, slice_index}
use Rattle.ttp_model.specs.Instance.{link_at}
use Rattle.ttp_model.proofs.links.has_link.Given as goal

abbrev pub invariant-loop-l : goal.invariant-loop-l
invariant-loop-l l = (k : ℕ) → k < l.l-index → (link_at l.instance (slice_index l.l-items k)).after ≢ l.q
