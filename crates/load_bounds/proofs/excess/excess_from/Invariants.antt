-- What begins at `from` or later is summed up, and no interval from there gets too much by the demands so far.
use Rattle.std.proofs.Common.{◌≡◌, ◌≤◌, ◌^◌, ◌*◌, ℕ, take, sum_by}
use Rattle.load_bounds.specs.Within.{IsExcess}
use Rattle.load_bounds.proofs.Intervals.{part_from}
use Rattle.load_bounds.proofs.excess.excess_from.Given as goal

abbrev pub invariant-loop-demand : goal.invariant-loop-demand
invariant-loop-demand l = record {
  small : l.sum ≤ l.demand-index * 2 ^ 32;
  sum : l.sum ≡ sum_by (part_from l.from) (take l.demand-index l.demands);
  none : (b : ℕ) → ¬ IsExcess l.rate (take l.demand-index l.demands) l.from b;
}
