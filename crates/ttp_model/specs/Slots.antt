-- When slots begin and end, in ticks: TDMA rounds of Pop, Eles and Peng (CODES 1999), in which each node
-- has one slot, the order and the lengths are those of every round, and rounds follow one another.
use Rattle.std.specs.Prelude.{ℕ, ◌+◌, ◌*◌, ◌==◌, List, slice_index, sum_by}
use Rattle.std.specs.List.{before_first}
use Rattle.ttp_model.specs.declared.parts.Cluster.{Cluster}

-- how long a frame of this capacity, in bytes, is on the bus
abbrev pub frame_length : Cluster → ℕ → ℕ
frame_length c capacity = c.head + c.per_byte * capacity

-- how long a slot of this capacity is: the frame between lead and trail
abbrev pub slot_duration : Cluster → ℕ → ℕ
slot_duration c capacity = c.lead + frame_length c capacity + c.trail

-- how long a node's slot is, where caps has the capacity of each node
abbrev pub duration : Cluster → List ℕ → ℕ → ℕ
duration c caps n = slot_duration c (slice_index caps n)

-- how long a round is: all slots together
abbrev pub round_length : Cluster → List ℕ → ℕ
round_length c caps = sum_by (slot_duration c) caps

-- the nodes that stand before n in the slot order: all of it where n doesn't stand there
abbrev pub nodes_before : ℕ → List ℕ → List ℕ
nodes_before n order = before_first (λ m. m == n) order

-- how far into a round a node's slot begins
abbrev pub offset : Cluster → List ℕ → List ℕ → ℕ → ℕ
offset c order caps n = sum_by (duration c caps) (nodes_before n order)

-- when the slot of node n begins in round r, counted from 0
abbrev pub slot_start : Cluster → List ℕ → List ℕ → ℕ → ℕ → ℕ
slot_start c order caps n r = r * round_length c caps + offset c order caps n

-- when it ends
abbrev pub slot_end : Cluster → List ℕ → List ℕ → ℕ → ℕ → ℕ
slot_end c order caps n r = slot_start c order caps n r + duration c caps n
