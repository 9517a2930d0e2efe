-- Decisions of a path of which those are kept whose levels are in a set. Own profile.
use Rattle.std.specs.Prelude.{ℕ, zero, suc, ◌≡◌, List, [], ◌∷◌, Bool, Option, None, Some, IsTrue, IsFalse}
use Rattle.tt_choice.specs.Kept.{Marked, keep, drop}
use Rattle.used_decisions.specs.declared.turn.Turn.{Turn}
use Rattle.used_decisions.specs.declared.turn.Placed.{Placed}
use Rattle.used_decisions.specs.Levels.{has_level}

-- each decision of a path whose level is in the set is kept
abbrev pub KeepsLevels : List Bool → List Turn → List Marked → Type 0
KeepsLevels levels [] [] = Unit {0}
KeepsLevels levels [] (m ∷ ms) = ⊥
KeepsLevels levels (turn ∷ turns) [] = ⊥
KeepsLevels levels (turn ∷ turns) (keep d ∷ ms) = (d ≡ turn.decision) × KeepsLevels levels turns ms
KeepsLevels levels (turn ∷ turns) (drop d ∷ ms) = (d ≡ turn.decision) × IsFalse (has_level levels turn.level) × KeepsLevels levels turns ms

-- the level of a decision is in the set, if there is one
abbrev pub IsTold : List Bool → Option Turn → Type 0
IsTold levels None = Unit {0}
IsTold levels (Some turn) = IsTrue (has_level levels turn.level)

-- the levels of the first so many nodes that are placed are in the set
abbrev pub ArePlacesTold : List Bool → ℕ → List Placed → Type 0
ArePlacesTold levels zero placed = Unit {0}
ArePlacesTold levels (suc count) [] = Unit {0}
ArePlacesTold levels (suc count) (one ∷ placed) = IsTrue (has_level levels one.level) × ArePlacesTold levels count placed
