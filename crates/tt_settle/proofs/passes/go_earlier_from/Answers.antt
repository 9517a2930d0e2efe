use Rattle.std.proofs.Common.{◌≡◌}
use Rattle.ttp_model.specs.Lists.{EachBelow}
use Rattle.ttp_model.specs.Plans.{start_of}
use Rattle.tt_settle.specs.Settling.{RestsWithMessages}
use Rattle.tt_settle.proofs.Trying.{tried_valid, tried_more}
use Rattle.tt_settle.proofs.passes.go_earlier_from.Goals as goal

pub go_earlier_if-next-requires-clause-valid : goal.go_earlier_if-next-requires-clause-valid
go_earlier_if-next-requires-clause-valid c = tried_valid c.args.instance.now c.args.plan (λ q. EachBelow c.loop-p.p (λ p. start_of q p ≡ c.args.time → RestsWithMessages c.args.instance.now q p)) c.loop-p.plan c.loop-p.moved c.requires c.loop-p.invariant

pub loop-p-preserved : goal.loop-p-preserved
loop-p-preserved c = tried_more c.args.instance.now c.args.plan (λ q p. start_of q p ≡ c.args.time → RestsWithMessages c.args.instance.now q p) c.loop-p.p c.loop-p.plan c.go_earlier_if-next.result.0 c.loop-p.moved c.go_earlier_if-next.result.1 c.loop-p.invariant c.go_earlier_if-next.ensures
