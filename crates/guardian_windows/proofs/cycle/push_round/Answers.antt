use Rattle.std.proofs.Common.{◌≡◌, ◌<◌, length, slice_index, arith}
use Rattle.std.proofs.lemmas.List.Sums.{sum_by_more}
use Rattle.ttp_model.specs.Slots.{duration, slot_start}
use Rattle.tt_layout.proofs.SlotTimes.{offset-at}
use Rattle.guardian_windows.specs.Windows.{window_of}
use Rattle.guardian_windows.proofs.Steps.{round_windows-more, window_of-start}
use Rattle.guardian_windows.proofs.cycle.push_round.Goals as goal

pub loop-n-preserved : goal.loop-n-preserved
loop-n-preserved c =
    let i = c.args.instance.now in
    let plan = c.args.plan.now in
    let r = c.args.round in
    let k = c.loop-n.n-index in
    let n = slice_index plan.order k in
    let inside : k < length plan.order = rw c.as_slice-order.ensures at c.loop-n-test.true in
    let order = rw (← c.requires.valid.lengths.capacities) at c.requires.valid.order in
    let begins : c.loop-n.start ≡ slot_start i.cluster plan.order plan.caps n r = omega (arith, c.loop-n.invariant.start, offset-at i.cluster plan.order plan.caps order k inside) in
    let window = window_of-start i plan r n c.loop-n.start c.window_at.result begins (rw (c.as_slice-order.ensures, c.cluster-cluster.ensures.value, c.requires.layout) at c.window_at.ensures) in
    let lasts : c.duration-start.result ≡ duration i.cluster plan.caps n = rw (c.as_slice-order.ensures, c.requires.layout) at c.duration-start.ensures.value in
    record {
      items = rw (c.in_ok-push.ensures.items, window) (round_windows-more (window_of i plan r) c.args.windows.now.items c.loop-n.windows.items plan.order k inside c.loop-n.invariant.items);
      start = omega (arith, c.loop-n.invariant.start, sum_by_more (duration i.cluster plan.caps) plan.order k 0 inside, lasts);
      bound = omega (arith, c.loop-n.invariant.bound, c.duration-start.ensures.bound);
    }
