use Rattle.std.proofs.Common.{◌∙◌, ap, arith, below_more, length, sym}
use Rattle.std.proofs.lemmas.Bool.{false≢true}
use Rattle.plan_reasons.specs.PlanCauses.{MessageHolds}
use Rattle.plan_reasons.proofs.plan_starts.message_that_holds.Goals as goal

pub of-layout-requires-clause-capacities : goal.of-layout-requires-clause-capacities
of-layout-requires-clause-capacities c = rw c.as_slice-2.ensures c.requires.valid.capacities

pub loop-m-preserved : goal.loop-m-preserved
loop-m-preserved c =
    below_more (λ k. ¬ MessageHolds c.args.instance.now c.args.plan.now c.args.p k) c.loop-m.m c.loop-m.invariant
    (λ holds. false≢true (sym c.if-message_holds.false ∙ c.message_holds.ensures.1 holds))

pub returns : goal.returns
returns c = λ k inside holds. c.loop-m.invariant k (omega (arith, inside, ap length c.messages-m-end.ensures.value, c.loop-m-test.false)) holds
