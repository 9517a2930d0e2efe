-- After how many ticks all periods begin together again, how often each process runs until then, and how many whole rounds
-- of the bus there are.
use Rattle.std.specs.Prelude.{◌≡◌, ℕ, ◌+◌, ◌-◌, ◌*◌, ◌/◌, ◌%◌, ◌<◌, ◌≤◌, ◌==◌, List, map, fold, sum_by, All}
use Rattle.std.specs.List.{range_with_len, position_or_len}
use Rattle.ttp_model.specs.declared.parts.Cluster.{Cluster}
use Rattle.ttp_model.specs.Slots.{slot_duration}
use Rattle.rates_model.specs.declared.parts.RatesCluster.{RatesCluster}
use Rattle.rates_model.specs.Rates.{Rates, period_of}

-- the periods of all processes
abbrev pub periods_of : Rates → List ℕ
periods_of rho = map (λ p. p.period) rho.processes

-- some whole number of each of these periods
pub record IsCommonMultiple (periods : List ℕ) (h : ℕ) : Type 0 where
  pub some : 0 < h
  pub divided : All (λ period. h % period ≡ 0) periods

-- and no lesser one is
pub record IsLeastCommonMultiple (periods : List ℕ) (h : ℕ) : Type 0 where
  pub common : IsCommonMultiple periods h
  pub least : (other : ℕ) → IsCommonMultiple periods other → h ≤ other

-- the least number above 0 of times h that is some whole number of periods: at most one period's ticks
unfoldable pub least_times : ℕ → ℕ → ℕ
least_times h period = 1 + position_or_len (λ k. h * (k + 1) % period == 0) (range_with_len 0 (period - 1))

-- the least multiple of h that is some whole number of periods
unfoldable pub least_multiple : ℕ → ℕ → ℕ
least_multiple h period = h * least_times h period

-- the cycle, in ticks: the least common multiple of all periods
unfoldable pub cycle : Rates → ℕ
cycle rho = fold least_multiple 1 (periods_of rho)

-- how many jobs a process has in a cycle: one in each of its periods
abbrev pub jobs_of : Rates → ℕ → ℕ
jobs_of rho p = cycle rho / period_of rho p

-- the bus of a cluster, for so many ticks
abbrev pub bus_for : RatesCluster → ℕ → Cluster
bus_for c horizon = record {
  precision = c.precision;
  lead = c.lead;
  trail = c.trail;
  head = c.head;
  per_byte = c.per_byte;
  copy_out = c.copy_out;
  copy_in = c.copy_in;
  horizon = horizon;
  channels = c.channels;
}

-- how long a round is: the slots of all nodes together
abbrev pub round_of : Rates → ℕ
round_of rho = sum_by (λ n. slot_duration (bus_for rho.cluster 0) n.capacity) rho.nodes

-- how many whole rounds a cycle has
abbrev pub rounds_in : Rates → ℕ
rounds_in rho = cycle rho / round_of rho

-- by when all of a cycle has to end: with its last whole round
abbrev pub horizon_of : Rates → ℕ
horizon_of rho = rounds_in rho * round_of rho
