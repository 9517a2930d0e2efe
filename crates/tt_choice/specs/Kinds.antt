-- The kinds of branches as a table: when a branch is open, from how many options one is taken, and which decision leads to
-- each child. Own profile.
use Rattle.std.specs.Prelude.{◌≡◌, ℕ, zero, suc, ◌+◌, ◌-◌, ◌*◌, ◌<◌, ◌≤◌, length, slice_index, None, Bool, true, false, IsTrue}
use Rattle.ttp_model.specs.declared.step.Kind.{Kind}
use Rattle.ttp_model.specs.declared.step.Kind.TheVariants.{Place, Cap, Pair, Round, Chan}
use Rattle.ttp_model.specs.Kinds.{children_of}
use Rattle.ttp_model.specs.Instance.{Instance, node_at}
use Rattle.tt_choice.specs.declared.decision.Decision.{Decision}
use Rattle.tt_choice.specs.declared.decision.Decision.TheVariants as decided
use Rattle.tt_choice.specs.Choice.{Choice, fixed_cap, least_round, greatest_round}
use Rattle.tt_choice.specs.Changes.{choice_after, unplaced, IsUnorderedPair, CutsRange, IsFreeChannel}

-- A row: when a branch is open; from how many options one is taken; and the decision that leads to the child of a number, from 0.
pub record Row : Type 1 where
  pub is_open : Type 0
  pub options : ℕ
  pub decision : ℕ → Decision

abbrev pub row : Type 0 → ℕ → (ℕ → Decision) → Row
row is_open options decision = record { is_open = is_open; options = options; decision = decision }

-- the first of two, and else the second
abbrev pub one_of : Decision → Decision → ℕ → Decision
one_of first second zero = first
one_of first second (suc k) = second

-- a node whose capacity is free
abbrev pub IsFreeNode : Instance → Choice → ℕ → Type 0
IsFreeNode i c n = (n < length i.nodes) × (fixed_cap c n ≡ None)

-- The table. Nodes come rising, options in their order, and both channels after each of the two.
abbrev pub branch : Instance → Choice → Kind → Row
branch i c Place = row (length c.prefix < length i.nodes) (length (unplaced i c)) (λ k. decided.Place (slice_index (unplaced i c) k))
branch i c (Cap n) = row (IsFreeNode i c n) (length (node_at i n).capacities) (λ k. decided.Cap n k)
branch i c (Pair p q) = row (IsUnorderedPair i c p q) 2 (one_of (decided.Before p q) (decided.Before q p))
branch i c (Round m r) = row (CutsRange i c m r) 2 (one_of (decided.AtMost m r) (decided.AtLeast m (r + 1)))
branch i c (Chan m) = row (IsFreeChannel i c m) 3 (λ k. decided.Channel m k)

-- the branches on the next place
abbrev pub is_of_places : Kind → Bool
is_of_places Place = true
is_of_places (Cap n) = false
is_of_places (Pair p q) = false
is_of_places (Round m r) = false
is_of_places (Chan m) = false

-- each side of a cut has at most half of the range
abbrev pub Halves : Choice → Kind → Type 0
Halves c Place = Unit {0}
Halves c (Cap n) = Unit {0}
Halves c (Pair p q) = Unit {0}
Halves c (Round m r) =
    (2 * (r - least_round c m) ≤ greatest_round c m - least_round c m)
    × (2 * (greatest_round c m - (r + 1)) ≤ greatest_round c m - least_round c m)
Halves c (Chan m) = Unit {0}

-- what a branch decides is there and isn't decided yet
abbrev pub IsOpen : Instance → Choice → Kind → Type 0
IsOpen i c kind = (branch i c kind).is_open

-- how many children an open branch has
abbrev pub children : Instance → Choice → Kind → ℕ
children i c kind = children_of kind (branch i c kind).options

-- the decision that leads to the child of a number, and the child
abbrev pub decision_of : Instance → Choice → Kind → ℕ → Decision
decision_of i c kind = (branch i c kind).decision

abbrev pub child : Instance → Choice → Kind → ℕ → Choice
child i c kind k = choice_after i c (decision_of i c kind k)

-- a branch on the next place has its children where all places are kept
abbrev pub HasPlaces : Kind → Bool → Type 0
HasPlaces kind all = IsTrue (is_of_places kind) → IsTrue all
