use Rattle.std.proofs.Common.{arith}
use Rattle.plan_questions.proofs.AgeCuts.{is_own, measured}
use Rattle.plan_questions.proofs.ages.age_cut.own_age.Goals as goal

pub greatest_age-requires-clause-valid : goal.greatest_age-requires-clause-valid
greatest_age-requires-clause-valid c =
    (measured c.args.aging.now c.args.most c.args.number c.args.plan.now c.requires.aging c.chains-chains.ensures.keeps c.nodes-nodes.ensures.instance
    c.requires.most c.requires.valid).0

pub overflow_cast-result : goal.overflow_cast-result
overflow_cast-result c =
    let a = c.args.aging.now in
    let both = measured a c.args.most c.args.number c.args.plan.now c.requires.aging c.chains-chains.ensures.keeps c.nodes-nodes.ensures.instance
    c.requires.most c.requires.valid in
    let is = is_own a.rates.now a.chain c.chains-chains.ensures.keeps c.requires.aging.there c.args.plan.now c.chain_at-chain.result.now
    c.greatest_age.result c.chain_at-chain.ensures.value c.greatest_age.ensures in
    omega (arith, both.1, is, c.ranges.most.fits)

pub returns : goal.returns
returns c =
    is_own c.args.aging.now.rates.now c.args.aging.now.chain c.chains-chains.ensures.keeps c.requires.aging.there c.args.plan.now
    c.chain_at-chain.result.now c.greatest_age.result c.chain_at-chain.ensures.value c.greatest_age.ensures
