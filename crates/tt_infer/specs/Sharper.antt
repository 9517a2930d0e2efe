-- When at least as much is known, and when steps lead on in the same way there. Own profile.
use Rattle.std.specs.Prelude.{◌≡◌, ℕ, ◌≤◌, List, [], ◌∷◌, ◌++◌, IsTrue}
use Rattle.ttp_model.specs.declared.step.Step.{Step}
use Rattle.ttp_model.specs.declared.step.Step.TheVariants.{XRound}
use Rattle.ttp_model.specs.Instance.{Instance}
use Rattle.tt_choice.specs.Choice.{Choice}
use Rattle.sought_plans.specs.Known.{Known, es_of, le_of, lo_of, top_of, bef_of}
use Rattle.sought_plans.specs.Conclusions.{NothingLeft, sharpened}
use Rattle.tt_infer.specs.Table.{AsksForRounds, IsLawful}
use Rattle.tt_infer.specs.Leaves.{Lead}

-- g says at least as much as f: times and rounds are bounded as closely, each known order is known,
-- and where no plan was left none is
pub record IsSharper (f g : Known) : Type 0 where
  pub es : (p : ℕ) → es_of f p ≤ es_of g p
  pub le : (p : ℕ) → le_of g p ≤ le_of f p
  pub lo : (m : ℕ) → lo_of f m ≤ lo_of g m
  pub top : (m : ℕ) → top_of g m ≤ top_of f m
  pub bef : (p q : ℕ) → IsTrue (bef_of f p q) → IsTrue (bef_of g p q)
  pub closed : IsTrue f.closed → IsTrue g.closed

-- a step leads on to where at least as much is known as g tells
pub record LeadsAsFar (i : Instance) (c : Choice) (goal : ℕ) (f : Known) (step : Step) (g : Known) : Type 0 where
  pub known : Known
  pub lawful : IsLawful i c goal f step known
  pub sharper : IsSharper g known
  pub closed : known.closed ≡ g.closed

-- a step asks for a round, and a message has none left, which is told by the closer on its rounds
pub record MissesRound (i : Instance) (c : Choice) (goal : ℕ) (f : Known) (step : Step) : Type 0 where
  pub asks : AsksForRounds step
  pub message : ℕ
  pub none : top_of f message ≡ 0
  pub lawful : IsLawful i c goal f (XRound message) (sharpened i f NothingLeft)

-- steps lead on to where at least as much is known as g tells
pub record LeadAsFar (i : Instance) (c : Choice) (goal : ℕ) (f : Known) (steps : List Step) (g : Known) : Type 0 where
  pub known : Known
  pub lead : Lead i c goal f steps known
  pub sharper : IsSharper g known
  pub closed : known.closed ≡ g.closed

-- the first of the steps lead to where the next one asks for a round and a message has none left: these
-- first steps and the closer on its rounds lead to where no plan is left
pub record LeadToClose (i : Instance) (c : Choice) (goal : ℕ) (f : Known) (steps : List Step) : Type 0 where
  pub first : List Step
  pub next : Step
  pub others : List Step
  pub parts : steps ≡ first ++ next ∷ others
  pub asks : AsksForRounds next
  pub message : ℕ
  pub known : Known
  pub lead : Lead i c goal f (first ++ XRound message ∷ []) known
  pub closed : IsTrue known.closed
