use Rattle.std.proofs.Common.{◌≡◌, ap, arith, codes, length}
use Rattle.plan_sheets.specs.Deliveries.{deliveries_text, message_text}
use Rattle.plan_sheets.proofs.Growing.{head_begins, line_starts, range_grows}
use Rattle.plan_sheets.proofs.deliveries.deliveries.Goals as goal

pub put_message-requires-clause-start : goal.put_message-requires-clause-start
put_message-requires-clause-start c = line_starts _ _ c.loop-m.invariant

pub loop-m-init : goal.loop-m-init
loop-m-init c = head_begins _ _ c.in_ok-sheet.ensures

pub loop-m-preserved : goal.loop-m-preserved
loop-m-preserved c = range_grows _ _ (codes "message,sender,receiver,bytes,round,channel,node,ready,slot,slot_end,arrived,needed\n") (message_text c.args.instance.now c.args.plan.now) c.loop-m.m c.loop-m.invariant c.in_ok-put_message.ensures

pub returns : goal.returns
unfolding deliveries_text
returns c =
    let all : c.loop-m.m ≡ length c.args.instance.now.messages = omega (arith, ap length c.messages-count.ensures.value) in
    let whole = rw all at c.loop-m.invariant in
    rw whole.text at c.into_text.ensures
