use Rattle.std.proofs.Common.{arith}
use Rattle.std.proofs.lemmas.List.{take_all}
use Rattle.plan_sheets.specs.DeliveryLines.{deliveries_text, delivery_text}
use Rattle.plan_sheets.proofs.PictureGrowing.{list_grows}
use Rattle.plan_sheets.proofs.pictures.lines.put_deliveries.Goals as goal

pub loop-q-preserved : goal.loop-q-preserved
loop-q-preserved c =
    list_grows _ _ _ (delivery_text c.args.canvas.now c.args.instance.now c.args.plan.now c.args.m) c.as_slice-receivers.result.now c.loop-q.q-index c.loop-q-test.true c.loop-q.invariant c.in_ok-put_delivery.ensures

pub returns : goal.returns
unfolding deliveries_text
returns c =
    let all = rw (take_all c.loop-q.q-index c.as_slice-receivers.result.now (omega arith)) at c.loop-q.invariant in
    rw (c.as_slice-receivers.ensures, c.message_at.ensures.value) at all
