use Rattle.plan_sheets.proofs.Places.{sending-near}
use Rattle.plan_sheets.proofs.pictures.lines.put_sending.Goals as goal

pub put_line-requires-clause-near : goal.put_line-requires-clause-near
put_line-requires-clause-near c =
    rw c.sending_of-line.ensures (sending-near c.args.instance.now c.args.plan.now c.nodes-nodes.ensures.instance c.requires.valid c.args.m c.requires.inside)
