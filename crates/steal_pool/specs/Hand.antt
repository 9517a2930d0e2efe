-- What a clause says of a hand, and of all hands of a pool.
use Rattle.std.specs.Prelude.{◌≡◌, ℕ, ◌+◌, ◌-◌, ◌≤◌, List, [], ◌∷◌, ◌++◌, length, IsPermutation}
use Rattle.std.specs.List.{flat_map}
use mathlib.Core.Option.{some}
use lib.ListN.{get_elem?, set}
use Rattle.crossbeam_deque.specs.Handles.{worker_view, worker_deque}
use Rattle.search_trees.specs.Account.{IsSourced}
use Rattle.search_trees.specs.Task.{Task}
use Rattle.steal_pool.specs.declared.door.Door.{Door}
use Rattle.steal_pool.specs.declared.hand.Hand.{Hand}
use Rattle.steal_pool.specs.Door.{DequeId, deque_of, deques_of, taken_by}

-- all tasks that the hand has pushed
abbrev pub pushed : {J : Type 0} → Hand J → List Task
pushed h = (worker_view h.own).pushed

-- all tasks that it has popped
abbrev pub own_taken : {J : Type 0} → Hand J → List Task
own_taken h = (worker_view h.own).taken

-- all tasks that it has taken, deque by deque
abbrev pub taken : {J : Type 0} → Hand J → List Task
taken h = own_taken h ++ flat_map taken_by h.doors.items

-- which deque is its own
abbrev pub own_deque : {J : Type 0} → Hand J → DequeId
own_deque h = worker_deque h.own

-- the deques of its pool, in the order of the hands
abbrev pub deques : {J : Type 0} → Hand J → List DequeId
deques h = deques_of h.doors.items

-- how many passes of the own deque are out
abbrev pub out_count : {J : Type 0} → Hand J → ℕ
out_count h = (worker_view h.own).out

-- a hand of the same pool, with the same number
pub record IsSameHand {J : Type 0} (old new : Hand J) : Type 0 where
  pub number : new.number ≡ old.number
  pub own : own_deque new ≡ own_deque old
  pub deques : deques new ≡ deques old
  pub out : out_count new ≡ out_count old

-- the hand with this number, in a pool of these deques
pub record IsHandOf {J : Type 0} (ids : List DequeId) (place : ℕ) (h : Hand J) : Type 0 where
  pub number : h.number ≡ place
  pub own : get_elem? ids place ≡ some (own_deque h)
  pub deques : deques h ≡ ids
  pub out : out_count h ≡ length ids

-- all hands of one pool, in order of number
abbrev pub IsPool : {J : Type 0} → List (Hand J) → Type 0
IsPool {J} hands = (ids : List DequeId) × (length ids ≡ length hands) × ((place : ℕ) (h : Hand J) → get_elem? hands place ≡ some h → IsHandOf ids place h)

-- all that the hands have pushed
abbrev pub all_pushed : {J : Type 0} → List (Hand J) → List Task
all_pushed hands = flat_map pushed hands

-- and all that they have taken
abbrev pub all_taken : {J : Type 0} → List (Hand J) → List Task
all_taken hands = flat_map taken hands

-- one hand changes, as R says
abbrev pub ChangesAt : {J : Type 0} → List (Hand J) → ℕ → (Hand J → Hand J → Type 0) → List (Hand J) → Type 0
ChangesAt {J} old place R new = (g : Hand J) × (h : Hand J) × (get_elem? old place ≡ some g) × (new ≡ set old place h) × R g h

-- a hand that has pushed and taken nothing, and has no way into any deque yet
pub record IsFresh {J : Type 0} (place : ℕ) (h : Hand J) : Type 0 where
  pub number : h.number ≡ place
  pub doors : h.doors.items ≡ []
  pub out : out_count h ≡ 0
  pub pushed : pushed h ≡ []
  pub own_taken : own_taken h ≡ []

-- a hand gives a way into its deque
pub record OpensDoor {J : Type 0} (old : Hand J) (d : Door J) (new : Hand J) : Type 0 where
  pub number : new.number ≡ old.number
  pub own : own_deque new ≡ own_deque old
  pub doors : new.doors.items ≡ old.doors.items
  pub out : out_count new ≡ out_count old + 1
  pub pushed : pushed new ≡ pushed old
  pub own_taken : own_taken new ≡ own_taken old
  pub leads : deque_of d ≡ own_deque old
  pub unused : taken_by d ≡ []

-- and takes one back
pub record ClosesDoor {J : Type 0} (old : Hand J) (d : Door J) (new : Hand J) : Type 0 where
  pub number : new.number ≡ old.number
  pub own : own_deque new ≡ own_deque old
  pub doors : new.doors.items ≡ old.doors.items
  pub out : out_count new ≡ out_count old - 1
  pub pushed : pushed new ≡ pushed old
  pub own_taken : own_taken new ≡ own_taken old ++ taken_by d

-- with no way into its deque left, what was pushed there was taken
abbrev pub BalancesAlone : {J : Type 0} → Hand J → Type 0
BalancesAlone h = out_count h ≡ 0 → IsPermutation (pushed h) (own_taken h)

-- a hand has one way more
pub record AddsDoor {J : Type 0} (old : Hand J) (d : Door J) (new : Hand J) : Type 0 where
  pub number : new.number ≡ old.number
  pub own : own_deque new ≡ own_deque old
  pub out : out_count new ≡ out_count old
  pub pushed : pushed new ≡ pushed old
  pub own_taken : own_taken new ≡ own_taken old
  pub doors : new.doors.items ≡ old.doors.items ++ d ∷ []

-- no way into any deque is left
abbrev pub IsClosed : {J : Type 0} → List (Hand J) → Type 0
IsClosed {J} hands = (place : ℕ) (h : Hand J) → get_elem? hands place ≡ some h → (length h.doors.items ≡ 0) × (out_count h ≡ 0)

-- no more was taken than was pushed
abbrev pub IsWithin : {J : Type 0} → Hand J → Type 0
IsWithin h = length (own_taken h) ≤ length (pushed h)

-- so it is of each hand
abbrev pub AllWithin : {J : Type 0} → List (Hand J) → Type 0
AllWithin {J} hands = (place : ℕ) (h : Hand J) → get_elem? hands place ≡ some h → IsWithin h

-- each task that the hand has popped was pushed by it
abbrev pub HasSources : {J : Type 0} → Hand J → Type 0
HasSources h = IsSourced Task (pushed h) (own_taken h)

-- the hand has popped a task
pub record PopsTask {J : Type 0} (old : Hand J) (t : Task) (new : Hand J) : Type 0 where
  pub same : IsSameHand old new
  pub doors : new.doors.items ≡ old.doors.items
  pub pushed : pushed new ≡ pushed old
  pub within : out_count new ≡ 0 → IsWithin new
  pub sources : out_count new ≡ 0 → HasSources new
  pub taken : IsPermutation (taken new) (t ∷ taken old)

-- the hand has found its deque empty
pub record PopsNone {J : Type 0} (old new : Hand J) : Type 0 where
  pub same : IsSameHand old new
  pub doors : new.doors.items ≡ old.doors.items
  pub pushed : pushed new ≡ pushed old
  pub own_taken : own_taken new ≡ own_taken old
  pub taken : taken new ≡ taken old
  pub balance : BalancesAlone new

-- the hand has counted what is in its deque
pub record CountsOwn {J : Type 0} (old new : Hand J) : Type 0 where
  pub same : IsSameHand old new
  pub doors : new.doors.items ≡ old.doors.items
  pub within : out_count new ≡ 0 → IsWithin new
  pub sources : out_count new ≡ 0 → HasSources new
  pub pushed : pushed new ≡ pushed old
  pub taken : taken new ≡ taken old
