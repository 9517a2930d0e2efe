use Rattle.std.proofs.Common.{ap}
use Rattle.rates_model.specs.declared.parts.Chain.{Chain}
use Rattle.plan_questions.proofs.AgeCuts.{asked}
use Rattle.plan_questions.proofs.ages.least.least_age.Goals as goal

pub least_of-requires-clause-asked : goal.least_of-requires-clause-asked
least_of-requires-clause-asked g c = λ κs alive.
    asked c.args.aging.now c.window_age-low.result c.chain_at.result.now.age c.requires c.chains-chains.ensures.keeps c.nodes-nodes.ensures.instance
    c.window_age-low.ensures.value (ap (λ (chain : Chain). chain.age) c.chain_at.ensures.value) c.window_age-low.ensures.within
    c.ages_take_ticks.ensures
