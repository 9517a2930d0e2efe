use Rattle.std.proofs.Common.{◌<◌}
use Rattle.tt_layout.proofs.FirstRounds.{first_round}
use Rattle.ttp_model.specs.Slots.{round_length, offset}
use Rattle.tt_layout.proofs.layout.Layout.first_round_at.Goals as goal

pub returns-else-t-offset : goal.returns-else-t-offset
returns-else-t-offset c =
    let before = rw c.cluster.ensures.value at c.slots_before-offset.ensures.length in
    let s = c.self.inside in
    let round = c.self.invariant.1 in
    let some : 0 < round_length s.instance.now.cluster s.caps.now = rw round.value at round.some in
    let later : offset s.instance.now.cluster s.order.now s.caps.now c.args.n < c.args.t = rw before at c.if-t-offset.false in
    rw (← c.self.view_is, before, round.value) (first_round _ c.args.n c.args.t some later)
