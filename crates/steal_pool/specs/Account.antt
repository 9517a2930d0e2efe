-- The rule of one deque: what is pushed to it is taken or still there, whoever takes it.
use Rattle.std.specs.Prelude.{◌≡◌, ℕ, ◌+◌, ◌-◌, ◌≤◌, List, [], ◌++◌, true, false, count_by, length, All, IsPermutation}
use Rattle.std.specs.List.{flat_map}
use mathlib.Core.Option.{some}
use lib.ListN.{get_elem?}
use Rattle.ttp_model.specs.Instance.{Instance, instance_with}
use Rattle.search_trees.specs.Account.{IsSourced}
use Rattle.search_trees.specs.Task.{Task}
use Rattle.steal_pool.specs.declared.account.Tally.{Tally}

-- nothing at all; whoever makes a pool picks another
abbrev pub no_instance : Instance
no_instance =
    instance_with (record { precision = 0; lead = 0; trail = 0; head = 0; per_byte = 0; copy_out = 0; copy_in = 0; horizon = 0; channels = 0 }) [] [] [] []

-- the owner's pass, at first
abbrev pub opened : Tally
opened = record { owner = true; live = true; out = 0; pushed = []; taken = [] }

-- a pass for somebody else, at first
abbrev pub newcomer : Tally
newcomer = record { owner = false; live = true; out = 0; pushed = []; taken = [] }

-- what is left of a pass that was joined
abbrev pub spent : Tally
spent = record { owner = false; live = false; out = 0; pushed = []; taken = [] }

-- the owner's, with one more pass out
abbrev pub one_more_out : Tally → Tally
one_more_out v = record { owner = v.owner; live = v.live; out = v.out + 1; pushed = v.pushed; taken = v.taken }

-- the owner's, with another pass joined
abbrev pub taken_in : Tally → Tally → Tally
taken_in v w = record { owner = v.owner; live = v.live; out = v.out - 1; pushed = v.pushed; taken = v.taken ++ w.taken }

-- a pass that has pushed these tasks too
abbrev pub with_pushed : Tally → List Task → Tally
with_pushed v xs = record { owner = v.owner; live = v.live; out = v.out; pushed = v.pushed ++ xs; taken = v.taken }

-- a pass that has taken these tasks too
abbrev pub with_taken : Tally → List Task → Tally
with_taken v xs = record { owner = v.owner; live = v.live; out = v.out; pushed = v.pushed; taken = v.taken ++ xs }

-- how many passes there are
abbrev pub live_count : List Tally → ℕ
live_count views = count_by (λ (v : Tally). v.live) views

-- what all passes pushed
abbrev pub all_pushed : List Tally → List Task
all_pushed views = flat_map (λ (v : Tally). v.pushed) views

-- what all passes took
abbrev pub all_taken : List Tally → List Task
all_taken views = flat_map (λ (v : Tally). v.taken) views

-- Only the owner's pass, the first, has pushed, and it counts the others. A pass that was joined has taken nothing
-- itself.
pub record FitsAt (count port : ℕ) (v : Tally) : Type 0 where
  pub owner : v.owner ≡ true → (port ≡ 0) × (count ≡ v.out + 1)
  pub others : v.owner ≡ false → v.pushed ≡ []
  pub ended : v.live ≡ false → (v.pushed ≡ []) × (v.taken ≡ [])

-- so it is of each pass
abbrev pub FitsEach : ℕ → List Tally → Type 0
FitsEach count views = (port : ℕ) (v : Tally) → get_elem? views port ≡ some v → FitsAt count port v

-- What was pushed is what was taken and what the deque holds; and P is true of each task that it holds.
pub record Fits (P : Task → Type 0) (items : List Task) (views : List Tally) : Type 0 where
  pub balance : IsPermutation (all_pushed views) (all_taken views ++ items)
  pub each : FitsEach (live_count views) views
  pub tasks : All P items

-- some tasks were pushed
abbrev pub Pushed : Tally → List Task → Tally → Type 0
Pushed v xs w = w ≡ with_pushed v xs

-- with no other pass out, no more was taken than was pushed
abbrev pub IsWithin : Tally → Type 0
IsWithin v = v.owner ≡ true → v.live ≡ true → v.out ≡ 0 → length v.taken ≤ length v.pushed

-- with no other pass out, each task that was taken was pushed
abbrev pub HasSources : Tally → Type 0
HasSources v = v.owner ≡ true → v.live ≡ true → v.out ≡ 0 → IsSourced Task v.pushed v.taken

-- some tasks were taken, of each of which P is true
pub record Took (P : Task → Type 0) (v : Tally) (xs : List Task) (w : Tally) : Type 0 where
  pub after : w ≡ with_taken v xs
  pub within : IsWithin w
  pub sources : HasSources w
  pub tasks : All P xs

-- with no other pass out, what was pushed was taken
abbrev pub IsEmptied : Tally → Type 0
IsEmptied v = v.owner ≡ true → v.live ≡ true → v.out ≡ 0 → IsPermutation v.pushed v.taken
