-- How a leaf stands at a choice inside the one that it closes. Own profile.
use Rattle.std.specs.Prelude.{◌≡◌, ℕ, ◌<◌, ◌≤◌, ◌⊎◌, List, [], ◌∷◌, ◌++◌, length, IsFalse}
use Rattle.ttp_model.specs.declared.step.Step.{Step}
use Rattle.ttp_model.specs.declared.step.Step.TheVariants.{XRound}
use Rattle.ttp_model.specs.declared.step.Leaf.{Leaf}
use Rattle.ttp_model.specs.Instance.{Instance}
use Rattle.tt_choice.specs.Choice.{Choice, IsChoice}
use Rattle.tt_choice.specs.Inside.{IsInside}
use Rattle.sought_plans.specs.Known.{Known, lo_of, top_of, first_facts}
use Rattle.tt_infer.specs.Table.{IsLawful}
use Rattle.tt_infer.specs.Leaves.{Lead, ClosesLeaf}

-- a message has no round left, and none before it lacks one
pub record IsFirstUnsent (i : Instance) (f : Known) (m : ℕ) : Type 0 where
  pub message : m < length i.messages
  pub none_left : top_of f m ≤ lo_of f m
  pub first : (k : ℕ) → k < m → lo_of f k < top_of f k

-- A leaf of which a step isn't lawful: it stands with the steps before the first such one, and then the closer on the rounds of the
-- first message that has none left.
pub record IsCutShort (i : Instance) (c : Choice) (leaf here : Leaf) : Type 0 where
  pub before : List Step
  pub step : Step
  pub after : List Step
  pub steps_are : leaf.steps ≡ before ++ step ∷ after
  pub known : Known
  pub lead : Lead i c leaf.goal (first_facts i c) before known
  pub left : IsFalse known.closed
  pub refused : (next : Known) → ¬ IsLawful i c leaf.goal known step next
  pub message : ℕ
  pub unsent : IsFirstUnsent i known message
  pub here_is : here ≡ record { goal = leaf.goal; steps = before ++ XRound message ∷ [] }

-- a leaf as it stands at a choice: as it is, where it closes it, and else cut short
abbrev pub StandsAs : Instance → Choice → (leaf here : Leaf) → Type 0
StandsAs i c leaf here = ((here ≡ leaf) × ClosesLeaf i c leaf) ⊎ IsCutShort i c leaf here

-- a leaf closes a choice around this one
pub record ClosesAround (i : Instance) (c : Choice) (leaf : Leaf) : Type 0 where
  pub outer : Choice
  pub choice : IsChoice i outer
  pub inside : IsInside i c outer
  pub closes : ClosesLeaf i outer leaf
