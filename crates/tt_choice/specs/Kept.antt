-- Decisions of which some are kept, and what the kept ones alone say. Own profile.
use Rattle.std.specs.Prelude.{ℕ, ◌+◌, ◌==◌, ◌&&◌, ◌||◌, nat_lt, not, List, [], ◌∷◌, length, Option, None, Some, Bool, true, false, IsTrue}
use Rattle.ttp_model.specs.Instance.{Instance, node_at}
use Rattle.tt_choice.specs.declared.decision.Decision.{Decision}
use Rattle.tt_choice.specs.declared.decision.Decision.TheVariants as decided
pub use Rattle.tt_choice.specs.Kinds.{is_of_places, HasPlaces}

-- a decision that is kept, or that isn't
pub data Marked : Type 0 where
  keep : Decision → Marked
  drop : Decision → Marked

-- all of them, and those that are kept
abbrev pub all_of : List Marked → List Decision
all_of [] = []
all_of (keep d ∷ ms) = d ∷ all_of ms
all_of (drop d ∷ ms) = d ∷ all_of ms

abbrev pub kept_of : List Marked → List Decision
kept_of [] = []
kept_of (keep d ∷ ms) = d ∷ kept_of ms
kept_of (drop d ∷ ms) = kept_of ms

-- a decision takes a place
abbrev pub takes_place : Decision → Bool
takes_place (decided.Place n) = true
takes_place (decided.Cap n k) = false
takes_place (decided.Before p q) = false
takes_place (decided.AtMost m r) = false
takes_place (decided.AtLeast m r) = false
takes_place (decided.Channel m k) = false

-- places are kept from the first on: none behind one that isn't; `all` says whether those so far are
abbrev pub KeepsPlaces : Bool → List Marked → Type 0
KeepsPlaces all [] = Unit {0}
KeepsPlaces all (keep d ∷ ms) = (IsTrue (takes_place d) → IsTrue all) × KeepsPlaces all ms
KeepsPlaces all (drop d ∷ ms) = KeepsPlaces (all && not (takes_place d)) ms

-- whether all places are kept
abbrev pub places_kept : Bool → List Marked → Bool
places_kept all [] = all
places_kept all (keep d ∷ ms) = places_kept all ms
places_kept all (drop d ∷ ms) = places_kept (all && not (takes_place d)) ms

-- a decision sets the least round of message m, its greatest round, or that p goes before q
abbrev pub sets_least : ℕ → Decision → Bool
sets_least m (decided.Place n) = false
sets_least m (decided.Cap n k) = false
sets_least m (decided.Before p q) = false
sets_least m (decided.AtMost n r) = false
sets_least m (decided.AtLeast n r) = n == m
sets_least m (decided.Channel n k) = false

abbrev pub sets_greatest : ℕ → Decision → Bool
sets_greatest m (decided.Place n) = false
sets_greatest m (decided.Cap n k) = false
sets_greatest m (decided.Before p q) = false
sets_greatest m (decided.AtMost n r) = n == m
sets_greatest m (decided.AtLeast n r) = false
sets_greatest m (decided.Channel n k) = false

abbrev pub sets_order : ℕ → ℕ → Decision → Bool
sets_order p q (decided.Place n) = false
sets_order p q (decided.Cap n k) = false
sets_order p q (decided.Before x y) = (x == p) && (y == q)
sets_order p q (decided.AtMost n r) = false
sets_order p q (decided.AtLeast n r) = false
sets_order p q (decided.Channel n k) = false

-- a decision fixes the capacity of node n above its least option, or below its greatest
abbrev pub fixes_above : ℕ → Decision → Bool
fixes_above n (decided.Place v) = false
fixes_above n (decided.Cap v k) = (v == n) && nat_lt 0 k
fixes_above n (decided.Before p q) = false
fixes_above n (decided.AtMost m r) = false
fixes_above n (decided.AtLeast m r) = false
fixes_above n (decided.Channel m k) = false

abbrev pub fixes_below : Instance → ℕ → Decision → Bool
fixes_below i n (decided.Place v) = false
fixes_below i n (decided.Cap v k) = (v == n) && nat_lt (k + 1) (length (node_at i n).capacities)
fixes_below i n (decided.Before p q) = false
fixes_below i n (decided.AtMost m r) = false
fixes_below i n (decided.AtLeast m r) = false
fixes_below i n (decided.Channel m k) = false

-- a decision fixes the channel of message m to one that passes a test
abbrev pub fixes_channel : (ℕ → Bool) → ℕ → Decision → Bool
fixes_channel test m (decided.Place n) = false
fixes_channel test m (decided.Cap n k) = false
fixes_channel test m (decided.Before p q) = false
fixes_channel test m (decided.AtMost n r) = false
fixes_channel test m (decided.AtLeast n r) = false
fixes_channel test m (decided.Channel n k) = (n == m) && test k

-- a channel is fixed, and passes a test
abbrev pub passes : (ℕ → Bool) → Option ℕ → Bool
passes test None = false
passes test (Some k) = test k

-- whether the last of the decisions that a test picks is kept; what was so before them where it picks none
abbrev pub last_kept : (Decision → Bool) → Bool → List Marked → Bool
last_kept picks before [] = before
last_kept picks before (keep d ∷ ms) = last_kept picks (picks d || before) ms
last_kept picks before (drop d ∷ ms) = last_kept picks (not (picks d) && before) ms
