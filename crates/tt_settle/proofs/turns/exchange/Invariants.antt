use Rattle.std.proofs.Common.{ℕ, ◌==◌, ◌&&◌, if◌then◌else◌, slice_index}
use Rattle.ttp_model.specs.Instance.{source_of}
use Rattle.ttp_model.specs.Moves.{other_channel}
use Rattle.tt_settle.proofs.Exchanging.{AreExchanged}
use Rattle.tt_settle.proofs.turns.exchange.Given as goal

abbrev pub invariant-loop-k : goal.invariant-loop-k
invariant-loop-k l = AreExchanged (λ (k : ℕ). if source_of l.instance k == source_of l.instance l.m && slice_index l.rounds k == slice_index l.rounds l.m then other_channel (slice_index l.fn.channels.items k) else slice_index l.fn.channels.items k) l.fn.channels.items l.k l.channels.items
