use Rattle.std.proofs.Common.{sym, ◌∙◌}
use Rattle.tt_settle.proofs.Turning.{frame_turned, frame_rests}
use Rattle.tt_settle.proofs.turns.turn_one.Goals as goal

pub returns-then-leads_turned : goal.returns-then-leads_turned
returns-then-leads_turned c = frame_turned c.args.instance.now c.args.plan c.args.m c.turn_frame.result c.requires.instance c.requires.valid c.requires.inside (sym c.leads_turned.ensures ∙ c.if-leads_turned.true) c.turn_frame.ensures

pub returns-else-leads_turned : goal.returns-else-leads_turned
returns-else-leads_turned c = frame_rests c.args.instance.now c.args.plan c.args.m (sym c.leads_turned.ensures ∙ c.if-leads_turned.false)
