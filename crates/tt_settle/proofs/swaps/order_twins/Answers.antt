use Rattle.ttp_model.specs.Lists.{EachBelow}
use Rattle.tt_settle.specs.Settling.{RestsAmongTwins}
use Rattle.tt_settle.proofs.Trying.{tried_valid, tried_more}
use Rattle.tt_settle.proofs.swaps.order_twins.Goals as goal

pub order_twins_of-next-requires-clause-valid : goal.order_twins_of-next-requires-clause-valid
order_twins_of-next-requires-clause-valid c = tried_valid c.args.instance.now c.args.plan (λ r. EachBelow c.loop-p.p (RestsAmongTwins c.args.instance.now r)) c.loop-p.plan c.loop-p.moved c.requires c.loop-p.invariant

pub loop-p-preserved : goal.loop-p-preserved
loop-p-preserved c = tried_more c.args.instance.now c.args.plan (RestsAmongTwins c.args.instance.now) c.loop-p.p c.loop-p.plan c.order_twins_of-next.result.0 c.loop-p.moved c.order_twins_of-next.result.1 c.loop-p.invariant c.order_twins_of-next.ensures
