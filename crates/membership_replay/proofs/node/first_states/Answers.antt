use Rattle.std.proofs.Common.{ℕ, refl, arith}
use Rattle.std.proofs.lemmas.List.FromFn.{map-range_with_len_more}
use Rattle.membership_replay.specs.Trace.{first_state}
use Rattle.membership_replay.proofs.node.first_states.Goals as goal

pub loop-i-preserved : goal.loop-i-preserved
loop-i-preserved c =
    let f = λ (i : ℕ). first_state c.args.count in
    let k = c.loop-i._i in
    rw (c.in_ok-push.ensures.items, c.loop-i.invariant, map-range_with_len_more f 0 k k (omega arith), c.first_state.ensures) refl
