-- Subtrees that are proved by some of the decisions that lead to them. Own profile.
use Rattle.std.specs.Prelude.{ℕ, ◌+◌, List, [], ◌∷◌, Bool}
use Rattle.ttp_model.specs.Instance.{Instance}
use Rattle.tt_choice.specs.declared.decision.Decision.{Decision}
use Rattle.tt_choice.specs.Kept.{Marked, keep}
use Rattle.tt_infer.specs.RuledOut.{IsRuledOut}
use Rattle.used_decisions.specs.declared.turn.Turn.{Turn}
use Rattle.used_decisions.specs.Marks.{KeepsLevels}

-- each of these decisions is kept
abbrev pub all_kept : List Decision → List Marked
all_kept [] = []
all_kept (d ∷ ds) = keep d ∷ all_kept ds

-- decisions, each with its level: the first has this one
abbrev pub levelled : ℕ → List Decision → List Turn
levelled level [] = []
levelled level (d ∷ ds) = record { decision = d; level = level } ∷ levelled (level + 1) ds

-- No plan below a bound is left where those of these decisions are made whose levels are in a set, whichever others are made
-- with them.
abbrev pub IsProvedBy : Instance → ℕ → List Bool → List Decision → Type 0
IsProvedBy i low used decisions = (ms : List Marked) → KeepsLevels used (levelled 0 decisions) ms → IsRuledOut i low ms
