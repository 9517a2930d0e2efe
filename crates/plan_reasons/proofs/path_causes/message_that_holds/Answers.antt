use Rattle.std.proofs.Common.{◌∙◌, below_more, sym}
use Rattle.std.proofs.lemmas.Bool.{false≢true}
use Rattle.plan_reasons.specs.PathChains.{MessageHolds}
use Rattle.plan_reasons.proofs.path_causes.message_that_holds.Goals as goal

pub loop-m-preserved : goal.loop-m-preserved
loop-m-preserved c =
    below_more (λ k. ¬ MessageHolds c.args.instance.now c.args.ends.now c.args.p c.args.from k) c.loop-m.m c.loop-m.invariant
    (λ holds. false≢true (sym c.if-message_holds.false ∙ c.message_holds.ensures.1 holds))
