use Rattle.std.proofs.Common.{◌≡◌, ◌≤◌, ◌==◌, fold, min, map, filter, take}
use Rattle.rates_model.specs.Ages.{age_deadline, last_of}
use Rattle.endless_schedules.proofs.deadlines.least_with_ages.Given as goal

abbrev pub invariant-loop-c : goal.invariant-loop-c
invariant-loop-c l = (l.least ≡ fold min l.tick (map (λ chain. age_deadline l.rates chain l.k) (filter (λ chain. last_of chain == l.p) (take l.c l.rates.chains)))) × (l.least ≤ l.tick)
