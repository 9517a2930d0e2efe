-- What the search core is at one moment. Own profile.
use Rattle.std.specs.Prelude.{ℕ, List, [], ◌∷◌, ◌++◌, replicate, slice_index_or, slice_set}
use Rattle.std.specs.List.{flat_map}
use Rattle.search_trees.specs.declared.piece.Piece.{Piece}
use Rattle.search_trees.specs.Name.{Name, root_name}
use Rattle.search_core.specs.declared.hand.Hand.{Hand}
use Rattle.search_core.specs.declared.hand.Hand.TheVariants.{Empty, Task, Children, Value}

-- A worker: its deque from the first name to the last, its hand, the best delay that it saw last,
-- the pieces that it made, and the names that it left.
pub record Worker : Type 0 where
  pub deque : List Name
  pub hand : Hand
  pub seen : ℕ
  pub pieces : List Piece
  pub left : List Name

-- the best delay, and the workers
pub record World : Type 0 where
  pub best : ℕ
  pub seats : List Worker

-- a worker that has nothing, and has seen this delay
abbrev pub idle_seat : ℕ → Worker
idle_seat top = record { deque = []; hand = Empty; seen = top; pieces = []; left = [] }

-- worker w; one that has nothing where there is no such worker
abbrev pub worker_at : World → ℕ → Worker
worker_at m w = slice_index_or m.seats w (idle_seat 0)

-- worker w is now this one
abbrev pub put : World → ℕ → Worker → World
put m w s = record m { seats = slice_set m.seats w s }

-- At first the first worker's deque has the root's name, and all else is empty.
abbrev pub start : ℕ → ℕ → World
start workers top = record {
  best = top;
  seats = slice_set (replicate workers (idle_seat top)) 0 (record (idle_seat top) { deque = root_name ∷ [] });
}

-- the names that a hand holds
abbrev pub held_names : Hand → List Name
held_names Empty = []
held_names (Task name) = name ∷ []
held_names (Children names) = names
held_names (Value v) = []

-- the open names of a worker: those in its deque, in its hand, and left
abbrev pub open_of : Worker → List Name
open_of s = (s.deque ++ held_names s.hand) ++ s.left

-- the open names
abbrev pub open_names : World → List Name
open_names m = flat_map open_of m.seats

-- all pieces
abbrev pub all_pieces : World → List Piece
all_pieces m = flat_map (λ s. s.pieces) m.seats
