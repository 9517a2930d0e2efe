use Rattle.std.proofs.Common.{◌≡◌}
use Rattle.std.proofs.lemmas.Bool.{both_ways}
use Rattle.std.proofs.lemmas.Result.{on_ok_weaker}
use Rattle.sought_plans.specs.Dominance.{IsSentTo}
use Rattle.tt_infer.specs.declared.fact.Fact.TheVariants.{LateRound}
use Rattle.tt_infer.proofs.AddedFacts.{adds_nowhere, adds_where}
use Rattle.tt_infer.proofs.read_facts.waits.add_arrival.Goals as goal

pub returns-then-receives : goal.returns-then-receives
returns-then-receives c = on_ok_weaker c.add.result
    (adds_where (IsSentTo c.args.instance.now c.args.p c.args.m) (λ fact. fact ≡ LateRound c.args.m) _ _ (c.receives.ensures.is.0 c.if-receives.true))
    c.add.ensures

pub returns : goal.returns
returns c = adds_nowhere (IsSentTo c.args.instance.now c.args.p c.args.m) (λ fact. fact ≡ LateRound c.args.m) _
    (λ sent. both_ways _ c.if-receives.false (c.receives.ensures.is.1 sent))
