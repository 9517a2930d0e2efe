use Rattle.std.proofs.Common.{ℕ, ◌==◌, ◌&&◌, if◌then◌else◌, length, slice_index, arith}
use Rattle.ttp_model.specs.Instance.{source_of}
use Rattle.ttp_model.specs.Moves.{other_channel}
use Rattle.tt_settle.proofs.Exchanging.{all_exchanged}
use Rattle.tt_settle.proofs.turns.exchange.Goals as goal

pub returns : goal.returns
returns c =
    let i = c.args.instance.now in
    let channel = λ (k : ℕ). if source_of i k == source_of i c.args.m && slice_index c.args.rounds.now k == slice_index c.args.rounds.now c.args.m then other_channel (slice_index c.args.channels.items k) else slice_index c.args.channels.items k in
    all_exchanged channel c.args.channels.items c.loop-k.channels.items (length i.messages) c.loop-k.k c.requires.channels (omega (arith, c.len-k-end.ensures, c.loop-k-test.false)) c.loop-k.invariant
