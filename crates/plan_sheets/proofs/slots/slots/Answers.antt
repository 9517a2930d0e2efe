use Rattle.std.proofs.Common.{◌≡◌, arith, codes}
use Rattle.tt_layout.specs.Cycle.{cycle_rounds}
use Rattle.plan_sheets.specs.Slots.{round_text, slots_text}
use Rattle.plan_sheets.proofs.Growing.{head_begins, line_starts, range_grows}
use Rattle.plan_sheets.proofs.slots.slots.Goals as goal

pub put_round-requires-clause-start : goal.put_round-requires-clause-start
put_round-requires-clause-start c = line_starts _ _ c.loop-round.invariant

pub loop-round-init : goal.loop-round-init
loop-round-init c = head_begins _ _ c.in_ok-sheet.ensures

pub loop-round-preserved : goal.loop-round-preserved
loop-round-preserved c = range_grows _ _ (codes "round,position,channel,node,start,frame,frame_end,end,capacity,used,messages\n") (round_text c.args.instance.now c.args.plan.now) c.loop-round.round c.loop-round.invariant c.in_ok-put_round.ensures

pub returns : goal.returns
unfolding slots_text
returns c =
    let all : c.loop-round.round ≡ cycle_rounds c.args.instance.now c.args.plan.now = omega (arith, c.cycle_rounds-rounds.ensures.value) in
    let whole = rw all at c.loop-round.invariant in
    rw whole.text at c.into_text.ensures
