use Rattle.std.proofs.Common.{◌≡◌, ◌∙◌, ◌++◌, ap, append_assoc, arith, length, string_bytes}
use Rattle.plan_sheets.specs.DeliveryLines.{deliveries_text, lines_text, message_text, sending_text}
use Rattle.plan_sheets.proofs.PictureGrowing.{range_grows}
use Rattle.plan_sheets.proofs.pictures.lines.put_lines.Goals as goal

pub loop-m-preserved : goal.loop-m-preserved
unfolding message_text
loop-m-preserved c =
    let i = c.args.instance.now in
    let plan = c.args.plan.now in
    let sent = sending_text c.args.canvas.now i plan c.loop-m.m in
    let delivered = deliveries_text c.args.canvas.now i plan c.loop-m.m in
    let both = c.in_ok-put_deliveries.ensures ∙ (ap (λ x. x ++ delivered) c.in_ok-put_sending.ensures ∙ append_assoc (string_bytes c.loop-m.text) sent delivered) in
    range_grows _ _ _ (message_text c.args.canvas.now i plan) c.loop-m.m c.loop-m.invariant both

pub returns : goal.returns
unfolding lines_text
returns c =
    let all : c.loop-m.m ≡ length c.args.instance.now.messages = omega (arith, ap length c.messages-count.ensures.value) in
    rw all at c.loop-m.invariant
