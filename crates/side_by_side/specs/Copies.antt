-- Where a leaf that went down may be cut short. Only private contracts ask for it.
use Rattle.std.specs.Prelude.{◌≡◌, ℕ, ◌<◌, ◌≤◌, length, slice_index_or, take, IsFalse}
use Rattle.ttp_model.specs.declared.step.Step.TheVariants.{XRound}
use Rattle.ttp_model.specs.declared.step.Leaf.{Leaf}
use Rattle.sought_plans.specs.Known.{Known, lo_of, top_of, first_facts}
use Rattle.tt_infer.specs.Table.{IsLawful}
use Rattle.tt_infer.specs.Leaves.{Lead}
use Rattle.tt_infer.specs.Facts.{Facts}

-- These facts are known after the steps of a leaf before this place; the step there isn't lawful, and a message has no round left.
pub record MayBeCut (facts : Facts) (leaf : Leaf) (place : ℕ) : Type 0 where
  pub inside : place < length leaf.steps
  pub goal : facts.goal ≡ leaf.goal
  pub lead : Lead facts.instance facts.choice leaf.goal (first_facts facts.instance facts.choice) (take place leaf.steps) facts.known
  pub left : IsFalse facts.known.closed
  pub refused : (next : Known) → ¬ IsLawful facts.instance facts.choice leaf.goal facts.known (slice_index_or leaf.steps place (XRound 0)) next
  pub message : ℕ
  pub there : message < length facts.instance.messages
  pub none_left : top_of facts.known message ≤ lo_of facts.known message
