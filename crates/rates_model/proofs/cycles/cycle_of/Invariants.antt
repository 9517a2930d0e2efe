use Rattle.std.proofs.Common.{◌≡◌, ◌<◌, ◌≤◌, map, take, fold}
use Rattle.ttp_model.specs.Limits.{most_ticks}
use Rattle.rates_model.specs.Cycles.{least_multiple}
use Rattle.rates_model.proofs.cycles.cycle_of.Given as goal

abbrev pub invariant-loop-process : goal.invariant-loop-process
invariant-loop-process l = record {
  so_far : l.cycle ≡ fold least_multiple 1 (map (λ p. p.period) (take l.process-index l.processes));
  some : 0 < l.cycle;
  few : l.cycle ≤ most_ticks;
}
