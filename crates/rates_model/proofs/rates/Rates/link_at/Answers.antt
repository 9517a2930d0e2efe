use Rattle.rates_model.specs.declared.error.RatesPlace.TheVariants.{AtLink}
use Rattle.rates_model.proofs.rates.Rates.link_at.Goals as goal

pub returns-clause-before : goal.returns-clause-before
returns-clause-before c = rw c.links.ensures.value (c.links.ensures.keeps.indices (AtLink c.args.l) c.requires).0

pub returns-clause-after : goal.returns-clause-after
returns-clause-after c = rw c.links.ensures.value (c.links.ensures.keeps.indices (AtLink c.args.l) c.requires).1
