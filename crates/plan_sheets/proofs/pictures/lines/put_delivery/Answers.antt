use Rattle.plan_sheets.proofs.Places.{delivery-near}
use Rattle.plan_sheets.proofs.pictures.lines.put_delivery.Goals as goal

pub put_line-requires-clause-near : goal.put_line-requires-clause-near
put_line-requires-clause-near c =
    rw c.delivery_of-line.ensures (delivery-near c.args.instance.now c.args.plan.now c.nodes-nodes.ensures.instance c.requires.valid c.args.m c.args.q c.requires.inside c.requires.receiver)
