use Rattle.std.proofs.Common.{refl, arith}
use Rattle.std.proofs.lemmas.List.FromFn.{map-range_with_len_more}
use Rattle.membership_replay.specs.Trace.{next_state}
use Rattle.membership_replay.proofs.node.next_states.Goals as goal

pub loop-i-preserved : goal.loop-i-preserved
loop-i-preserved c =
    let f = next_state c.args.row.now c.args.losses.now c.args.states.now in
    rw (c.in_ok-push.ensures.items, c.loop-i.invariant, map-range_with_len_more f 0 c.loop-i.i c.loop-i.i (omega arith), c.next_state.ensures) refl
