use Rattle.endless_schedules.proofs.ForEver.{late_age}
use Rattle.endless_schedules.proofs.Tops.{IsTop}
use Rattle.endless_schedules.proofs.ages.greatest_age.Given as goal

abbrev pub invariant-loop-k : goal.invariant-loop-k
invariant-loop-k l = IsTop (late_age l.rates l.plan l.chain) l.k l.greatest
