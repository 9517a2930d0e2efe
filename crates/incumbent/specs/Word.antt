-- The rule of the word that all watches share, and what each step on it tells: the word is at most all that any watch
-- has seen or offered, it is the first value or one that was offered, and the opening watch counts the others.
use Rattle.std.specs.Prelude.{◌≡◌, ℕ, ◌+◌, ◌-◌, ◌^◌, ◌<◌, ◌≤◌, ◌⊎◌, List, [], ◌∷◌, ◌++◌, true, false, min, All, Contains, count_by}
use mathlib.Core.Option.{some}
use lib.ListN.{get_elem?}
use Rattle.atomic_table.specs.Table.{State, Step, Me}
use Rattle.incumbent.specs.declared.word.View.{View}

-- the opening watch has seen the first value
abbrev pub opened : ℕ → View
opened top = record { opening = true; live = true; out = 0; seen = top ∷ []; offers = [] }

-- what is left of a watch that was joined
abbrev pub spent : View
spent = record { opening = false; live = false; out = 0; seen = []; offers = [] }

-- the opening watch, with one more split from it
abbrev pub one_more_out : View → View
one_more_out v = record { opening = v.opening; live = v.live; out = v.out + 1; seen = v.seen; offers = v.offers }

-- a split watch has seen what the opening one has seen or offered, and has offered nothing
abbrev pub newcomer : View → View
newcomer v = record { opening = false; live = true; out = 0; seen = v.seen ++ v.offers; offers = [] }

-- the opening watch with another one joined
abbrev pub taken_in : View → View → View
taken_in v w = record { opening = v.opening; live = v.live; out = v.out - 1; seen = v.seen ++ w.seen; offers = v.offers ++ w.offers }

-- the view after an answer
abbrev pub answered : View → ℕ → View
answered v n = record { opening = v.opening; live = v.live; out = v.out; seen = v.seen ++ n ∷ []; offers = v.offers }

-- the view after an offer of x that was answered by n
abbrev pub offered : View → ℕ → ℕ → View
offered v n x = record { opening = v.opening; live = v.live; out = v.out; seen = v.seen ++ n ∷ []; offers = v.offers ++ x ∷ [] }

-- how many watches are there, the opening one among them
abbrev pub live_count : List View → ℕ
live_count views = count_by (λ (v : View). v.live) views

-- n is at most all that the watch has seen or offered
pub record BelowAll (n : ℕ) (v : View) : Type 0 where
  pub seen : All (λ x. n ≤ x) v.seen
  pub offers : All (λ x. n ≤ x) v.offers

-- The word n is at most all that a watch has seen or offered. A watch that was joined has offered nothing itself. The
-- opening watch is the first, and counts the others.
pub record FitsAt (n count port : ℕ) (v : View) : Type 0 where
  pub below : BelowAll n v
  pub ended : v.live ≡ false → v.offers ≡ []
  pub opening : v.opening ≡ true → (port ≡ 0) × (count ≡ v.out + 1)

-- so it is of each watch
abbrev pub FitsEach : ℕ → ℕ → List View → Type 0
FitsEach n count views = (port : ℕ) (v : View) → get_elem? views port ≡ some v → FitsAt n count port v

-- the word is the first value, or a watch has offered it
abbrev pub IsReached : ℕ → ℕ → List View → Type 0
IsReached top n views = (n ≡ top) ⊎ ((port : ℕ) × (v : View) × (get_elem? views port ≡ some v) × Contains v.offers n)

-- the rule: one word of 32 bits, at most the first value
pub record Kept (top : ℕ) (s : State (Unit {0}) View) : Type 0 where
  pub word : ℕ
  pub is : s.words ≡ word ∷ []
  pub at_most : word ≤ top
  pub fits : word < 2 ^ 32
  pub each : FitsEach word (live_count s.views) s.views
  pub reached : IsReached top word s.views

-- what a look tells
abbrev pub Looks : Step (Unit {0}) → Me (Unit {0}) View → ℕ → Me (Unit {0}) View → Type 0
Looks s v found w = (found < 2 ^ 32) × BelowAll found v.0 × (w.0 ≡ answered v.0 found) × (w.1 ≡ v.1)

-- what an offer of s.first tells: the answer is the lesser of it and of the number found
abbrev pub Offers : Step (Unit {0}) → Me (Unit {0}) View → ℕ → Me (Unit {0}) View → Type 0
Offers s v found w = (found < 2 ^ 32) × BelowAll found v.0 × (w.0 ≡ offered v.0 (min found s.first) s.first) × (w.1 ≡ v.1)
