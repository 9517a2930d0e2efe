use Rattle.std.proofs.Common.{◌≡◌, ℕ, ◌<◌}
use Rattle.ttp_model.specs.Instance.{link_at}
use Rattle.ttp_model.specs.Graph.{HasLink}
use Rattle.tt_moves.proofs.exchanges.shares_successors.Given as goal

abbrev pub invariant-loop-l : goal.invariant-loop-l
invariant-loop-l l = (k : ℕ) → k < l.l → (link_at l.instance k).before ≡ l.p → HasLink l.instance l.q (link_at l.instance k).after
