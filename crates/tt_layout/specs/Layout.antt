-- What the times of slots depend on: the TDMA rounds of Pop, Eles and Peng (CODES 1999).
use Rattle.std.specs.Prelude.{ℕ, ◌≤◌, List}
use Rattle.ttp_model.specs.declared.parts.Cluster.{Cluster}
use Rattle.ttp_model.specs.Slots.{slot_start}

-- a cluster, the nodes in the order of their slots, and the capacity of each node in bytes
pub record Layout : Type 0 where
  pub cluster : Cluster
  pub order : List ℕ
  pub caps : List ℕ

-- the three together
abbrev pub timing : Cluster → List ℕ → List ℕ → Layout
timing cluster order caps = record { cluster = cluster; order = order; caps = caps }

-- the least round in which the node's slot begins at the time, in ticks, or later
pub record IsFirstRound (t : Layout) (n time round : ℕ) : Type 0 where
  pub late_enough : time ≤ slot_start t.cluster t.order t.caps n round
  pub least : (r : ℕ) → time ≤ slot_start t.cluster t.order t.caps n r → round ≤ r
