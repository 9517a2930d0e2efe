use Rattle.std.proofs.Common.{◌≡◌}
use Rattle.ttp_model.specs.Lists.{EachBelow}
use Rattle.ttp_model.specs.Instance.{message_at}
use Rattle.tt_settle.specs.Settling.{RestsInRound}
use Rattle.tt_settle.proofs.Trying.{tried_valid, tried_more}
use Rattle.tt_settle.proofs.passes.send_all_of.Goals as goal

pub send_if-next-requires-clause-valid : goal.send_if-next-requires-clause-valid
send_if-next-requires-clause-valid c = tried_valid c.args.instance.now c.args.plan (λ q. EachBelow c.loop-m.m (λ m. (message_at c.args.instance.now m).sender ≡ c.args.p → RestsInRound c.args.instance.now q m)) c.loop-m.plan c.loop-m.moved c.requires c.loop-m.invariant

pub loop-m-preserved : goal.loop-m-preserved
loop-m-preserved c = tried_more c.args.instance.now c.args.plan (λ q m. (message_at c.args.instance.now m).sender ≡ c.args.p → RestsInRound c.args.instance.now q m) c.loop-m.m c.loop-m.plan c.send_if-next.result.0 c.loop-m.moved c.send_if-next.result.1 c.loop-m.invariant c.send_if-next.ensures
