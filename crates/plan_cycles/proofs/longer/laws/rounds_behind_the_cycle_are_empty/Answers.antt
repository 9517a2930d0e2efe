use Rattle.plan_cycles.proofs.BehindCycle.{no_entries}
use Rattle.plan_cycles.proofs.longer.laws.rounds_behind_the_cycle_are_empty.Goals as goal

pub returns : goal.returns
returns c = λ i plan node n r w v behind. no_entries i plan w v node n r behind
