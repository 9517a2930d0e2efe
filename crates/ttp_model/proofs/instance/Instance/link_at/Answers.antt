use Rattle.ttp_model.specs.declared.error.Place.TheVariants.{AtLink}
use Rattle.ttp_model.proofs.instance.Instance.link_at.Goals as goal

pub returns-clause-before : goal.returns-clause-before
returns-clause-before c = rw c.links.ensures.value (c.links.ensures.instance.indices (AtLink c.args.l) c.requires).0

pub returns-clause-after : goal.returns-clause-after
returns-clause-after c = rw c.links.ensures.value (c.links.ensures.instance.indices (AtLink c.args.l) c.requires).1
