-- Choices in which no plan below a bound is left, by leaves that use only some of the decisions that lead to them. Own profile.
use Rattle.std.specs.Prelude.{ℕ, ◌<◌, ◌≤◌, List, [], ◌∷◌, ◌++◌, true}
use Rattle.ttp_model.specs.declared.step.Kind.{Kind}
use Rattle.ttp_model.specs.declared.step.Leaf.{Leaf}
use Rattle.ttp_model.specs.Instance.{Instance}
use Rattle.tt_choice.specs.Branches.{IsOpen, children}
use Rattle.tt_choice.specs.Decisions.{chosen, decision_of}
use Rattle.tt_choice.specs.Kept.{Marked, keep, drop, all_of, HasPlaces, places_kept}
use Rattle.sought_plans.specs.Known.{first_facts}
use Rattle.tt_infer.specs.Leaves.{ClosesSharply}
use Rattle.tt_infer.specs.Uses.{UseKept}

-- Of decisions that lead to a subtree those are kept that it needs. A leaf closes it, which uses no others; or it is split, and each child
-- needs what is kept with what leads to it; or one child needs no more than what is kept, whatever became of the others.
pub data IsRuledOut (i : Instance) (low : ℕ) : List Marked → Type 0 where
  by_leaf : (ms : List Marked) (leaf : Leaf) → low ≤ leaf.goal
      → ClosesSharply i (chosen i (all_of ms)) leaf
      → UseKept i ms leaf.goal (first_facts i (chosen i (all_of ms))) [] leaf.steps
      → IsRuledOut i low ms
  by_children : (ms : List Marked) (kind : Kind) → IsOpen i (chosen i (all_of ms)) kind → HasPlaces kind (places_kept true ms)
      → ((k : ℕ) → k < children i (chosen i (all_of ms)) kind
      → IsRuledOut i low (ms ++ keep (decision_of i (chosen i (all_of ms)) kind k) ∷ []))
      → IsRuledOut i low ms
  by_one : (ms : List Marked) (kind : Kind) (k : ℕ) → IsOpen i (chosen i (all_of ms)) kind → k < children i (chosen i (all_of ms)) kind
      → IsRuledOut i low (ms ++ drop (decision_of i (chosen i (all_of ms)) kind k) ∷ [])
      → IsRuledOut i low ms
