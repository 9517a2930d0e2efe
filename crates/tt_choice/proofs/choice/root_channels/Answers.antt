use Rattle.std.proofs.Common.{refl, arith}
use Rattle.std.proofs.lemmas.List.FromFn.{map-range_with_len_more}
use Rattle.tt_choice.specs.Branches.{root_channel}
use Rattle.tt_choice.proofs.choice.root_channels.Goals as goal

pub loop-m-preserved : goal.loop-m-preserved
loop-m-preserved c =
    let f = root_channel c.args.instance.now in
    let m = c.loop-m.m in
    rw (c.in_ok-push.ensures.items, c.loop-m.invariant, map-range_with_len_more f 0 m m (omega arith), c.root_channel.ensures) refl
