use Rattle.tt_settle.specs.Settling.{RestAsSilentTwins}
use Rattle.tt_settle.proofs.Trying.{tried_more}
use Rattle.tt_settle.proofs.swaps.order_silent_twins_of.Goals as goal

pub loop-u-preserved : goal.loop-u-preserved
loop-u-preserved c = tried_more c.args.instance.now c.args.plan (λ r u. RestAsSilentTwins c.args.instance.now r u c.args.v) c.loop-u.u c.loop-u.plan c.order_silent_pair-next.result.0 c.loop-u.moved c.order_silent_pair-next.result.1 c.loop-u.invariant c.order_silent_pair-next.ensures
