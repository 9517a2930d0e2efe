use Rattle.ttp_model.specs.Lists.{EachBelow}
use Rattle.tt_settle.specs.Settling.{RestsOnChannel}
use Rattle.tt_settle.proofs.Trying.{tried_valid, tried_more}
use Rattle.tt_settle.proofs.turns.turn_frames.Goals as goal

pub turn_one-next-requires-clause-valid : goal.turn_one-next-requires-clause-valid
turn_one-next-requires-clause-valid c = tried_valid c.args.instance.now c.args.plan (λ q. EachBelow c.loop-m.m (RestsOnChannel c.args.instance.now q)) c.loop-m.plan c.loop-m.moved c.requires c.loop-m.invariant

pub loop-m-preserved : goal.loop-m-preserved
loop-m-preserved c = tried_more c.args.instance.now c.args.plan (RestsOnChannel c.args.instance.now) c.loop-m.m c.loop-m.plan c.turn_one-next.result.0 c.loop-m.moved c.turn_one-next.result.1 c.loop-m.invariant c.turn_one-next.ensures
