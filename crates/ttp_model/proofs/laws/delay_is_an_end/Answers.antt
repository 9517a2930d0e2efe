use Rattle.std.proofs.Common.{length}
use Rattle.ttp_model.specs.Plans.{end_of}
use Rattle.ttp_model.proofs.ValidPlans.{greatest_each, greatest_reached}
use Rattle.ttp_model.proofs.laws.delay_is_an_end.Goals as goal

pub returns-clause-each : goal.returns-clause-each
returns-clause-each c = λ i plan. greatest_each (end_of i plan) (length i.processes)

pub returns-clause-last : goal.returns-clause-last
returns-clause-last c = λ i plan. greatest_reached (end_of i plan) (length i.processes)
