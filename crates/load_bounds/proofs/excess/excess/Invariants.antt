-- No interval from the beginning of one of the demands so far gets too much.
use Rattle.std.proofs.Common.{◌<◌, ℕ, slice_index_or}
use Rattle.load_bounds.specs.declared.demands.Demand.{Demand}
use Rattle.load_bounds.specs.Within.{IsExcess}
use Rattle.load_bounds.proofs.excess.excess.Given as goal

abbrev pub invariant-loop-demand : goal.invariant-loop-demand
invariant-loop-demand l = (here : Demand) (k b : ℕ) → k < l.demand-index → ¬ IsExcess l.rate l.sorted (slice_index_or l.sorted k here).from b
