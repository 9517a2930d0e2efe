-- What stands on top of trees that are proofs, and which of it counts.
use Rattle.std.proofs.Common.{◌≡◌, ℕ, ◌<◌, ◌≤◌, ◌⊎◌, List, ◌∷◌, Option, None, Some, arith, inl, inr, refl, sym, ap, subst, ◌∙◌}
use Rattle.ttp_model.specs.declared.step.Leaf.{Leaf}
use Rattle.ttp_model.specs.Instance.{Instance}
use Rattle.tt_choice.specs.Choice.{Choice}
use Rattle.tt_choice.specs.Branches.{IsBranch, child_choices}
use Rattle.certificate.specs.declared.branch.Branch.{Branch}
use Rattle.certificate.specs.declared.node.Node.{Node}
use Rattle.certificate.specs.declared.node.Node.TheVariants as node
use Rattle.certificate.specs.Trees.{Trees, none, grow}
use Rattle.tree_check.specs.Proofs.{AreProofs}
use Rattle.side_by_side.specs.Joined.{leaf_on_top, branch_on_top, goal_on_top, low_on_top, beside_top, ReachesGoal, IsBest, IsUnder}

-- nothing is there, or trees that are proofs
abbrev pub ProofsOrNone : Instance → ℕ → List Choice → Trees → Type 0
ProofsOrNone i low cs trees = (trees ≡ none) ⊎ AreProofs i low cs trees

abbrev HasTop : Trees → Type 0
HasTop none = ⊥
HasTop (grow node below beside) = Unit {0}

pub not_none : (node : Node) (below beside : Trees) → grow node below beside ≡ none → ⊥
not_none node below beside e = subst HasTop e tt

-- a leaf that stands there has its goal
pub goal_of_leaf : (trees : Trees) (leaf : Leaf) → leaf_on_top trees ≡ Some leaf → goal_on_top trees ≡ Some leaf.goal
goal_of_leaf none leaf is = cc
goal_of_leaf (grow (node.Branch branch) below beside) leaf is = cc
goal_of_leaf (grow (node.Leaf own) below beside) leaf is =
    let same : own ≡ leaf = cc in
    ap (λ (l : Leaf). Some l.goal) same

-- one without a branch states no bound there
pub no_low : (trees : Trees) (low : ℕ) → branch_on_top trees ≡ None → low_on_top low trees ≡ Some low → ⊥
no_low none low absent has = cc
no_low (grow (node.Branch branch) below beside) low absent has = cc
no_low (grow (node.Leaf leaf) below beside) low absent has = cc

module _ (i : Instance) (low : ℕ) (c : Choice) (cs : List Choice) where
  -- beside the first trees
  pub proofs_beside : (trees : Trees) → AreProofs i low (c ∷ cs) trees → AreProofs i low cs (beside_top trees)
  proofs_beside none are = absurd are
  proofs_beside (grow node below beside) are = are.1.1

  pub some_beside : (trees : Trees) → ProofsOrNone i low (c ∷ cs) trees → ProofsOrNone i low cs (beside_top trees)
  some_beside none some = inl refl
  some_beside (grow node below beside) some = elim some [
    | inl is ↦ absurd (not_none node below beside is)
    | inr are ↦ inr are.1.1
  ]

  module _ (branch : Branch) where
    below_same : (own : Branch) (below under : Trees) → own ≡ branch → under ≡ below → AreProofs i low (child_choices i c own.kind) below
        → AreProofs i low (child_choices i c branch.kind) under
    below_same own below under same is are =
        subst (λ (b : Branch). AreProofs i low (child_choices i c b.kind) under) same (subst (AreProofs i low (child_choices i c own.kind)) (sym is) are)

    -- below a branch
    pub some_under : (trees under : Trees) → ProofsOrNone i low (c ∷ cs) trees → IsUnder branch trees under
        → ProofsOrNone i low (child_choices i c branch.kind) under
    some_under none under some is = elim is [
      | inl same ↦ let absent : None ≡ Some branch = same.0 in cc
      | inr other ↦ inl other.1
    ]
    some_under (grow (node.Leaf leaf) below beside) under some is = elim is [
      | inl same ↦ let absent : None ≡ Some branch = same.0 in cc
      | inr other ↦ inl other.1
    ]
    some_under (grow (node.Branch own) below beside) under some is = elim is [
      | inr other ↦ inl other.1
      | inl same ↦ elim some [
        | inl absent ↦ absurd (not_none (node.Branch own) below beside absent)
        | inr are ↦
            let one : Some own ≡ Some branch = same.0 in
            let is_one : own ≡ branch = cc in
            inr (below_same own below under is_one same.1 are.1.0)
      ]
    ]

    -- the branch that leads is open, with just its children,
    pub led_branch : (trees : Trees) → branch_on_top trees ≡ Some branch → ProofsOrNone i low (c ∷ cs) trees
        → IsBranch i c branch.kind branch.children
    led_branch none is some = cc
    led_branch (grow (node.Leaf leaf) below beside) is some = cc
    led_branch (grow (node.Branch own) below beside) is some = elim some [
      | inl absent ↦ absurd (not_none (node.Branch own) below beside absent)
      | inr are ↦
          let is_one : own ≡ branch = cc in
          subst (λ (b : Branch). IsBranch i c b.kind b.children) is_one are.0
    ]

    -- and its certificate has proofs below it
    pub led_under : (trees under : Trees) → branch_on_top trees ≡ Some branch → ProofsOrNone i low (c ∷ cs) trees → IsUnder branch trees under
        → AreProofs i low (child_choices i c branch.kind) under
    led_under none under is some lower = cc
    led_under (grow (node.Leaf leaf) below beside) under is some lower = cc
    led_under (grow (node.Branch own) below beside) under is some lower = elim lower [
      | inr other ↦ absurd (other.0 is)
      | inl same ↦ elim some [
        | inl absent ↦ absurd (not_none (node.Branch own) below beside absent)
        | inr are ↦
            let is_one : own ≡ branch = cc in
            below_same own below under is_one same.1 are.1.0
      ]
    ]

  -- a leaf stands there, with a goal at least as great, or a branch
  pub top_of_proofs : (trees : Trees) (stated : ℕ) → AreProofs i low (c ∷ cs) trees
      → ((goal : ℕ) × (goal_on_top trees ≡ Some goal) × (low ≤ goal)) ⊎ (low_on_top stated trees ≡ Some stated)
  top_of_proofs none stated are = absurd are
  top_of_proofs (grow (node.Leaf leaf) below beside) stated are = inl (leaf.goal, refl, are.0.goal)
  top_of_proofs (grow (node.Branch branch) below beside) stated are = inr refl

-- ---- the best leaf

-- has at least the goal of the one from above,
pub best_keeps : (count : ℕ) (above : Option Leaf) (at : ℕ → Trees) (best : Option Leaf) (goal : ℕ) → IsBest count above at best → ReachesGoal above goal
    → ReachesGoal best goal
best_keeps count above at best goal is reaches = elim is [
  | inl keeps ↦ (reaches.0, keeps.same ∙ reaches.1, reaches.2)
  | inr takes ↦ (takes.leaf, takes.best_is, omega (arith, takes.more reaches.0 reaches.1, reaches.2))
]

-- and of each that stands there
pub best_takes : (count : ℕ) (above : Option Leaf) (at : ℕ → Trees) (best : Option Leaf) (k goal : ℕ) → IsBest count above at best → k < count
    → goal_on_top (at k) ≡ Some goal → ReachesGoal best goal
best_takes count above at best k goal is inside own = elim is [
  | inl keeps ↦
      let reaches = keeps.enough k goal inside own in
      (reaches.0, keeps.same ∙ reaches.1, reaches.2)
  | inr takes ↦ (takes.leaf, takes.best_is, takes.greatest.greatest k goal inside own)
]
