-- How much must be served within an interval. Ticks or rounds; ticks of processes or bytes. Own profile.
use Rattle.std.specs.Prelude.{ℕ, ◌-◌, ◌*◌, ◌<◌, ◌≤◌, ◌&&◌, nat_le, if◌then◌else◌, List, sum_by}
use Rattle.load_bounds.specs.declared.demands.Demand.{Demand}

-- when a demand must have been served
abbrev pub until_of : Demand → ℕ
until_of d = d.until

-- how much of a demand must be served from a to b: all of it, but nothing where it may be served
-- earlier or later
abbrev pub part_within : ℕ → ℕ → Demand → ℕ
part_within a b d = if nat_le a d.from && nat_le d.until b then d.size else 0

-- how much must be served from a to b
abbrev pub demand_within : ℕ → ℕ → List Demand → ℕ
demand_within a b ds = sum_by (part_within a b) ds

-- from a to b more must be served than there is room for, at so much for each tick or round
pub record IsExcess (rate : ℕ) (ds : List Demand) (a b : ℕ) : Type 0 where
  pub interval : a ≤ b
  pub excess : (b - a) * rate < demand_within a b ds
