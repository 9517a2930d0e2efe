-- One choice that goes through a tree, and the choices that turns lead it to. Only private contracts ask for it.
use Rattle.std.specs.Prelude.{◌≡◌, List, [], ◌∷◌, reverse}
use Rattle.ttp_model.specs.Instance.{Instance}
use Rattle.tt_choice.specs.declared.decision.Decision.{Decision}
use Rattle.tt_choice.specs.Choice.{Choice, IsChoice, bare}
use Rattle.tt_choice.specs.Decisions.{choice_after, kept_after, IsOpenDecision}
use Rattle.tree_check.specs.declared.walk.Turn.{Turn}
use Rattle.tree_check.specs.declared.walk.Turn.TheVariants.{Stay, Down, Up}
use Rattle.tree_check.specs.declared.walk.Walk.{Walk}

-- a choice was made by an open decision that is kept
pub record IsDecided (i : Instance) (above c : Choice) : Type 0 where
  pub decision : Decision
  pub choice : IsChoice i above
  pub is_open : IsOpenDecision i above decision
  pub is : c ≡ kept_after i above decision

-- the choice was made so from the first of these, that one from the next, and so on
abbrev pub IsBelow : Instance → Choice → List Choice → Type 0
IsBelow i c [] = Unit {0}
IsBelow i c (above ∷ others) = IsDecided i above c × IsBelow i above others

-- from a choice below these ones turns lead to these choices, one after another
abbrev pub LeadTo : Instance → Choice → List Choice → List Turn → List Choice → Type 0
LeadTo i c path [] left = left ≡ []
LeadTo i c path (Stay ∷ turns) left =
    (rest : List Choice) × (left ≡ bare c ∷ rest) × LeadTo i c path turns rest
LeadTo i c path (Down d ∷ turns) left =
    (rest : List Choice) × (left ≡ choice_after i c d ∷ rest)
    × (IsOpenDecision i c d × LeadTo i (kept_after i c d) (c ∷ path) turns rest)
LeadTo i c [] (Up ∷ turns) left = ⊥
LeadTo i c (above ∷ path) (Up ∷ turns) left = LeadTo i above path turns left

-- down to each choice that a decision leads to, and up again
abbrev pub turns_to : List Decision → List Turn
turns_to [] = []
turns_to (d ∷ ds) = Down d ∷ Up ∷ turns_to ds

-- The walk stands below some choices, and its turns lead to these ones.
pub record IsWalk (i : Instance) (w : Walk) (left : List Choice) : Type 0 where
  pub path : List Choice
  pub choice : IsChoice i w.choice
  pub below : IsBelow i w.choice path
  pub turns : LeadTo i w.choice path (reverse w.turns.items) left

-- the same of a walk with one turn more in front
pub record TurnsNext (i : Instance) (w : Walk) (turn : Turn) (left : List Choice) : Type 0 where
  pub path : List Choice
  pub choice : IsChoice i w.choice
  pub below : IsBelow i w.choice path
  pub turns : LeadTo i w.choice path (turn ∷ reverse w.turns.items) left
