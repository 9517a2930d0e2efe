use Rattle.std.proofs.Common.{length, sym, ap, ◌∙◌, arith}
use Rattle.ttp_model.specs.declared.error.Place.TheVariants.{AtCluster}
use Rattle.sought_plans.proofs.known.Known.restart.Goals as goal

pub fill_late-requires-clause-early : goal.fill_late-requires-clause-early
fill_late-requires-clause-early c = λ m inside.
    let range = (c.messages.ensures.instance.ranges AtCluster).horizon in
    omega (arith, c.requires.within m (rw c.messages.ensures.value at inside), range)

pub fill_late-requires-clause-all : goal.fill_late-requires-clause-all
fill_late-requires-clause-all c = c.requires.hi_length ∙ sym (ap length c.messages.ensures.value)

pub fill_least-requires : goal.fill_least-requires
fill_least-requires c = c.requires.lo_length ∙ sym (ap length c.messages.ensures.value)
