use Rattle.std.proofs.Common.{arith, subst}
use Rattle.ttp_model.specs.Rules.{IsInstance}
use Rattle.rates_model.specs.declared.error.RatesPlace.TheVariants.{AtChain}
use Rattle.endless_schedules.proofs.AgeWindows.{window-le_bound}
use Rattle.endless_schedules.proofs.windows.window_age.Goals as goal

pub overflow_cast-result : goal.overflow_cast-result
overflow_cast-result c =
    let a = c.args.aging.now in
    let keeps = c.chains-chains.ensures.keeps in
    let small = window-le_bound a.rates.now a.chain keeps (subst IsInstance c.requires.base c.nodes-nodes.ensures.instance) c.requires.there in
    let ticks = keeps.ranges (AtChain a.chain) c.requires.there in
    omega (arith, small, ticks.1, c.greatest_window.ensures)

pub returns-clause-within : goal.returns-clause-within
returns-clause-within c =
    let a = c.args.aging.now in
    let keeps = c.chains-chains.ensures.keeps in
    let small = window-le_bound a.rates.now a.chain keeps (subst IsInstance c.requires.base c.nodes-nodes.ensures.instance) c.requires.there in
    omega (arith, small, c.greatest_window.ensures)
