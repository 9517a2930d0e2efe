-- What the joined tree of parts reaches at a leaf of the first tree: as much as each of them.
use Rattle.std.proofs.Common.{◌≡◌, ℕ, ◌<◌, ◌≤◌, ◌⊎◌, List, ◌∷◌, Option, None, Some, length, min, arith, inl, inr, refl, sym, ap, subst, ◌∙◌}
use Rattle.ttp_model.specs.declared.step.Leaf.{Leaf}
use Rattle.ttp_model.specs.Instance.{Instance}
use Rattle.tt_choice.specs.Choice.{Choice}
use Rattle.tt_choice.specs.Branches.{child_choices}
use Rattle.certificate.specs.declared.branch.Branch.{Branch}
use Rattle.certificate.specs.declared.node.Node.TheVariants as node
use Rattle.certificate.specs.Trees.{Trees, none, grow, preorder}
use Rattle.certificate.specs.Cert.{Cert}
use Rattle.tree_check.specs.Proofs.{AreProofs}
use Rattle.side_by_side.specs.Joined.{branch_on_top, goal_on_top, below_top, ReachesGoal, IsBest, Leads, AreUnder, IsJoined}
use Rattle.side_by_side.specs.Bounds.{lowest}
use Rattle.side_by_side.specs.Parts.{OneBranches, reached}
use Rattle.side_by_side.proofs.LowBounds.{lowest_le, proofs_low, least_of_proofs}
use Rattle.side_by_side.proofs.Proving.{joined_proves}
use Rattle.side_by_side.proofs.Stands.{stands_goal}
use Rattle.side_by_side.proofs.Tops.{ProofsOrNone, best_takes, some_under}

-- one branch stands on top
same_branch : (trees : Trees) (one other : Branch) → branch_on_top trees ≡ Some one → branch_on_top trees ≡ Some other → one ≡ other
same_branch trees one other is also =
    let both : Some one ≡ Some other = sym is ∙ also in
    cc

module _ (i : Instance) (low most : ℕ) (c : Choice) (cs : List Choice) where
  -- where no branch stands, a leaf does, with such a goal
  leaf_reaches : (trees : Trees) → AreProofs i 0 (c ∷ cs) trees → branch_on_top trees ≡ None → low ≤ reached most trees
      → (goal : ℕ) × (goal_on_top trees ≡ Some goal) × (low ≤ goal)
  leaf_reaches none are bare le = absurd are
  leaf_reaches (grow (node.Leaf leaf) below beside) are bare le =
      (leaf.goal, refl, omega (arith, le, lowest_le (min most leaf.goal) (preorder below)))
  leaf_reaches (grow (node.Branch branch) below beside) are bare le =
      let bad : Some branch ≡ None = bare in
      cc

  -- below a branch are proofs of such a bound
  branch_reaches : (trees under : Trees) (branch : Branch) → AreProofs i 0 (c ∷ cs) trees → low ≤ reached most trees
      → branch_on_top trees ≡ Some branch → under ≡ below_top trees → AreProofs i low (child_choices i c branch.kind) under
  branch_reaches none under branch are le is there = absurd are
  branch_reaches (grow (node.Leaf leaf) below beside) under branch are le is there =
      let bad : None ≡ Some branch = is in
      cc
  branch_reaches (grow (node.Branch own) below beside) under branch are le is there =
      let one : own ≡ branch = same_branch (grow (node.Branch own) below beside) own branch refl is in
      subst (λ (b : Branch). AreProofs i low (child_choices i c b.kind) under) one
      (subst (AreProofs i low (child_choices i c own.kind)) (sym there) (proofs_low i low most (child_choices i c own.kind) below are.1.0 le))

top_branch : (trees : Trees) → (branch_on_top trees ≡ None) ⊎ ((branch : Branch) × (branch_on_top trees ≡ Some branch))
top_branch none = inl refl
top_branch (grow (node.Leaf leaf) below beside) = inl refl
top_branch (grow (node.Branch branch) below beside) = inr (branch, refl)

-- Certificates are right at a place, none but one has a branch there, and one of them reaches a bound.
module _ (i : Instance) (certs : List Cert) (low most : ℕ) (c : Choice) (cs : List Choice) (above : Option Leaf) (at : ℕ → Trees)
    (right : (k : ℕ) → k < length certs → AreProofs i 0 (c ∷ cs) (at k)) (ends : OneBranches (length certs) at)
    (k : ℕ) (inside : k < length certs) (le : low ≤ reached most (at k)) where
  -- so does the best leaf, where that one is a leaf,
  best_reaches : (best : Option Leaf) → IsBest (length certs) above at best → branch_on_top (at k) ≡ None → ReachesGoal best low
  best_reaches best is bare =
      let goal = leaf_reaches i low most c cs (at k) (right k inside) bare le in
      let reaches = best_takes (length certs) above at best k goal.0 is inside goal.1 in
      (reaches.0, reaches.1, omega (arith, reaches.2, goal.2))

  module _ (branch : Branch) (best : Option Leaf) (under : ℕ → Trees) (leads : Leads certs at branch) (is : IsBest (length certs) above at best)
      (lower : AreUnder (length certs) branch at under) where
    -- and where it is the one with a branch, that branch leads, and no other has trees below it
    own_leads : (own : Branch) → branch_on_top (at k) ≡ Some own → (k ≡ leads.number) × (branch_on_top (at k) ≡ Some branch)
    own_leads own has =
        let number : k ≡ leads.number = ends.1 k own inside has ∙ sym (ends.1 leads.number branch leads.greatest.inside leads.own) in
        (number, subst (λ (n : ℕ). branch_on_top (at n) ≡ Some branch) (sym number) leads.own)

    own_below : branch_on_top (at k) ≡ Some branch → AreProofs i low (child_choices i c branch.kind) (under k)
    own_below has = elim (lower k inside) [
      | inl same ↦ branch_reaches i low most c cs (at k) (under k) branch (right k inside) le has same.1
      | inr other ↦ absurd (other.0 has)
    ]

    others_below : branch_on_top (at k) ≡ Some branch → (j : ℕ) → j < length certs → ProofsOrNone i low (child_choices i c branch.kind) (under j)
    others_below has j within = elim (lower j within) [
      | inl same ↦
          let number : k ≡ j = ends.1 k branch inside has ∙ sym (ends.1 j branch within same.0) in
          inr (subst (λ (n : ℕ). AreProofs i low (child_choices i c branch.kind) (under n)) number (own_below has))
      | inr other ↦ inl other.1
    ]

    below_proves : (below : Trees) → IsJoined i certs (child_choices i c branch.kind) best under below
        → AreProofs i low (child_choices i c branch.kind) below
    below_proves below joined = elim (top_branch (at k)) [
      | inl bare ↦
          joined_proves i certs low (λ j. 0) (λ a b less enough. enough) (child_choices i c branch.kind) best under below
          (λ j within. some_under i 0 c cs branch (at j) (under j) (inr (right j within)) (lower j within))
          (inr (inr (best_reaches best is bare))) joined
      | inr own ↦
          let has = (own_leads own.0 own.1).1 in
          joined_proves i certs low (λ j. low) (λ a b less enough. enough) (child_choices i c branch.kind) best under below (others_below has)
          (inr (inl (k, inside, omega arith, own_below has))) joined
    ]

  -- the joined tree reaches it too
  pub place_reaches : (to : ℕ) → low ≤ to → (tree : Trees) → IsJoined i certs (c ∷ cs) above at tree → low ≤ reached to tree
  place_reaches to enough none joined = absurd joined
  place_reaches to enough (grow (node.Leaf here) below beside) joined =
      let alone = joined.0 in
      let reaches = best_reaches (Some alone.leaf) alone.best (alone.no_branch k inside) in
      let one : Some alone.leaf ≡ Some reaches.0 = reaches.1 in
      let same : alone.leaf ≡ reaches.0 = cc in
      let nothing : lowest (min to here.goal) (preorder below) ≡ min to here.goal =
      ap (λ (t : Trees). lowest (min to here.goal) (preorder t)) joined.1.0 in
      omega (arith, enough, reaches.2, ap (λ (l : Leaf). l.goal) same, stands_goal i c alone.leaf here alone.stands, nothing)
  place_reaches to enough (grow (node.Branch branch) below beside) joined =
      let down = joined.1.0 in
      let proves = below_proves branch down.0 down.1 joined.0 down.2.0 down.2.1.0 below down.2.1.1 in
      least_of_proofs i low to (child_choices i c branch.kind) below proves enough
