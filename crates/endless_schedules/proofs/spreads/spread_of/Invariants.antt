use Rattle.std.proofs.Common.{◌-◌, ◌^◌}
use Rattle.endless_schedules.proofs.ForEver.{first_start}
use Rattle.endless_schedules.proofs.Tops.{IsBottom, IsTop}
use Rattle.endless_schedules.proofs.spreads.spread_of.Given as goal

abbrev pub invariant-loop-k : goal.invariant-loop-k
invariant-loop-k l = record {
  earliest : IsBottom (first_start l.rates l.plan l.p) (2 ^ 64 - 1) l.k l.earliest;
  latest : IsTop (first_start l.rates l.plan l.p) l.k l.latest;
}
