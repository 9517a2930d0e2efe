-- What closes the whole tree bounds every plan.
use Rattle.std.proofs.Common.{arith, inl, inr}
use Rattle.std.proofs.lemmas.Bool.{cases_order}
use Rattle.ttp_model.specs.declared.step.Leaf.{Leaf}
use Rattle.ttp_model.specs.Instance.{Instance}
use Rattle.ttp_model.specs.Rules.{IsInstance}
use Rattle.ttp_model.specs.Delays.{delay, IsLowerBound}
use Rattle.ttp_model.proofs.Reached.{settled_reached}
use Rattle.tt_choice.specs.Branches.{root_choice}
use Rattle.tt_choice.proofs.Root.{IsChoice-root, IsIn-root}
use Rattle.tt_infer.specs.Leaves.{ClosesSharply}
use Rattle.tt_infer.proofs.Leaves.{leaf_leaves_none}
use Rattle.search_trees.proofs.RuledOut.{closes_sharply}

-- each valid plan leads to a settled one that ends no later, and the leaf leaves none of those below its goal
pub root_leaf_bounds : (i : Instance) (leaf : Leaf) → IsInstance i → ClosesSharply i (root_choice i) leaf → IsLowerBound i leaf.goal
root_leaf_bounds i leaf w closes plan valid =
    let reached = settled_reached i plan w valid in
    let chosen = IsIn-root i reached.0 w reached.1.valid in
    elim (cases_order (delay i reached.0) leaf.goal) [
      | inl same ↦ omega (arith, same, reached.2)
      | inr other ↦ elim other [
        | inl below ↦ absurd (leaf_leaves_none i (root_choice i) leaf w (IsChoice-root i w) (closes_sharply i (root_choice i) leaf closes) reached.0
            (record { settled = reached.1; chosen = chosen; better = below }))
        | inr above ↦ omega (arith, above, reached.2)
      ]
    ]
