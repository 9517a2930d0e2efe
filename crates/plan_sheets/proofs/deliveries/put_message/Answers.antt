use Rattle.std.proofs.Common.{arith}
use Rattle.std.proofs.lemmas.List.{take_all}
use Rattle.plan_sheets.specs.Deliveries.{delivery_text, message_text}
use Rattle.plan_sheets.proofs.Growing.{line_begins, line_starts, list_grows}
use Rattle.plan_sheets.proofs.deliveries.put_message.Goals as goal

pub of-layout-requires-clause-capacities : goal.of-layout-requires-clause-capacities
of-layout-requires-clause-capacities c = rw c.as_slice-2.ensures c.requires.valid.capacities

pub put_delivery-requires-clause-start : goal.put_delivery-requires-clause-start
put_delivery-requires-clause-start c = line_starts _ _ c.loop-q.invariant

pub loop-q-init : goal.loop-q-init
loop-q-init c = line_begins _ c.requires.start

pub loop-q-preserved : goal.loop-q-preserved
unfolding delivery_text
loop-q-preserved c =
    list_grows _ _ _ (delivery_text c.args.instance.now c.args.plan.now c.args.m) c.as_slice-receivers.result.now c.loop-q.q-index c.loop-q-test.true c.loop-q.invariant (rw c.delivery_of-row.ensures.row at c.in_ok-put_delivery.ensures)

pub returns : goal.returns
unfolding message_text
returns c =
    let all = rw (take_all c.loop-q.q-index c.as_slice-receivers.result.now (omega arith)) at c.loop-q.invariant in
    rw (c.as_slice-receivers.ensures, c.message_at.ensures.value) at all
