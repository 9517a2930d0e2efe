use Rattle.ttp_model.specs.Lists.{EachBelow}
use Rattle.tt_settle.specs.Settling.{RestAsSilentTwins}
use Rattle.tt_settle.proofs.Trying.{tried_more}
use Rattle.tt_settle.proofs.swaps.order_silent_twins.Goals as goal

pub loop-v-preserved : goal.loop-v-preserved
loop-v-preserved c = tried_more c.args.instance.now c.args.plan (λ r v. EachBelow v (λ u. RestAsSilentTwins c.args.instance.now r u v)) c.loop-v.v c.loop-v.plan c.order_silent_twins_of-next.result.0 c.loop-v.moved c.order_silent_twins_of-next.result.1 c.loop-v.invariant c.order_silent_twins_of-next.ensures
