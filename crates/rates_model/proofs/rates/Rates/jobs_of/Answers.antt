use Rattle.std.proofs.Common.{arith}
use Rattle.std.proofs.Math.Nat.{div-le_self}
use Rattle.rates_model.proofs.Periods.{jobs_whole}
use Rattle.rates_model.proofs.rates.Rates.jobs_of.Goals as goal

pub returns-clause-whole : goal.returns-clause-whole
returns-clause-whole c = rw (c.cycle.ensures.value, c.process_at.ensures.value) (jobs_whole _ c.cycle.ensures.keeps c.args.p c.requires)

pub returns-clause-few : goal.returns-clause-few
returns-clause-few c = omega (arith, c.cycle.ensures.bound, div-le_self c.cycle.result c.process_at.result.now.period)
