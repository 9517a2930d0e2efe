use Rattle.rates_model.proofs.Rooms.{begun_inside}
use Rattle.rates_model.proofs.rates.Rates.last_begun.Goals as goal

pub returns-clause-inside : goal.returns-clause-inside
returns-clause-inside c =
    rw (c.begin_of.ensures.value, c.process_at.ensures.value)
    (begun_inside _ c.processes-processes.ensures.keeps c.args.p c.args.q c.args.j c.requires.p c.requires.q c.requires.there)
