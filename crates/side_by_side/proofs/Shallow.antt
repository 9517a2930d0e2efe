-- A joined tree is one tree, and no deeper than the deepest of those that are joined.
use Rattle.std.proofs.Common.{◌≡◌, ℕ, zero, suc, ◌+◌, ◌<◌, ◌≤◌, ◌⊎◌, List, [], ◌∷◌, length, Option, None, Some, arith, inl, inr, refl, sym, ap, subst}
use Rattle.ttp_model.specs.declared.step.Leaf.{Leaf}
use Rattle.ttp_model.specs.Instance.{Instance}
use Rattle.tt_choice.specs.Choice.{Choice}
use Rattle.tt_choice.specs.Branches.{root_choice, child_choices}
use Rattle.certificate.specs.declared.branch.Branch.{Branch}
use Rattle.certificate.specs.declared.node.Node.TheVariants as node
use Rattle.certificate.specs.Limits.{most_branches_above}
use Rattle.certificate.specs.Trees.{Trees, none, grow, levels, AreTrees, IsTree}
use Rattle.certificate.specs.Cert.{Cert}
use Rattle.tree_check.specs.Proofs.{choices_below, AreProofs}
use Rattle.tree_check.proofs.Trees.{below_count}
use Rattle.side_by_side.specs.Joined.{branch_on_top, beside_top, own_trees, IsUnder, IsJoined, IsJoinedTree}
use Rattle.side_by_side.specs.Bounds.{IsRight}
use Rattle.side_by_side.proofs.Tops.{not_none}

-- trees that are proofs are as many as their choices
pub proofs_are_trees : (i : Instance) (low : ℕ) (cs : List Choice) (trees : Trees) → AreProofs i low cs trees → AreTrees (length cs) trees
proofs_are_trees i low [] none are = tt
proofs_are_trees i low [] (grow n below beside) are = absurd are
proofs_are_trees i low (c ∷ cs) none are = absurd are
proofs_are_trees i low (c ∷ cs) (grow n below beside) are = (
  subst (λ (k : ℕ). AreTrees k below) (sym (below_count i low c n are.0)) (proofs_are_trees i low (choices_below i c n) below are.1.0),
  proofs_are_trees i low cs beside are.1.1,
)

beside_levels : (trees : Trees) (most : ℕ) → levels trees ≤ most → levels (beside_top trees) ≤ most
beside_levels none most le = le
beside_levels (grow n below beside) most le = omega (arith, le)

-- below a branch one level less is left
under_levels : (branch : Branch) (trees under : Trees) (most : ℕ) → IsUnder branch trees under → levels trees ≤ suc most → levels under ≤ most
under_levels branch none under most lower le = elim lower [
  | inl same ↦ subst (λ (t : Trees). levels t ≤ most) (sym same.1) (omega arith)
  | inr other ↦ subst (λ (t : Trees). levels t ≤ most) (sym other.1) (omega arith)
]
under_levels branch (grow n below beside) under most lower le = elim lower [
  | inl same ↦ subst (λ (t : Trees). levels t ≤ most) (sym same.1) (omega (arith, le))
  | inr other ↦ subst (λ (t : Trees). levels t ≤ most) (sym other.1) (omega arith)
]

some_levels : (count : ℕ) (trees : Trees) → AreTrees (suc count) trees → 1 ≤ levels trees
some_levels count none are = absurd are
some_levels count (grow n below beside) are = omega arith

led_levels : (branch : Branch) (trees : Trees) → branch_on_top trees ≡ Some branch → 1 ≤ levels trees
led_levels branch none is = let bad : None ≡ Some branch = is in cc
led_levels branch (grow n below beside) is = omega arith

trees_beside : (count : ℕ) (trees : Trees) → AreTrees (suc count) trees → AreTrees count (beside_top trees)
trees_beside count none are = absurd are
trees_beside count (grow n below beside) are = are.1

-- A leaf that stands alone takes one level, which the ones above it leave: below a branch because its certificate has trees there too.
module _ (i : Instance) (certs : List Cert) where
  abbrev AreLow : ℕ → (ℕ → Trees) → Type 0
  AreLow most at = (k : ℕ) → k < length certs → levels (at k) ≤ most

  -- some certificate has as many trees there
  abbrev SomeHasTrees : ℕ → (ℕ → Trees) → Type 0
  SomeHasTrees count at = (k : ℕ) × (k < length certs) × AreTrees count (at k)

  there_beside : (count : ℕ) (at : ℕ → Trees) → SomeHasTrees (suc count) at → SomeHasTrees count (λ k. beside_top (at k))
  there_beside count at some = (some.0, some.1, trees_beside count (at some.0) some.2)

  -- each has as many there, or none
  abbrev HaveTrees : ℕ → (ℕ → Trees) → Type 0
  HaveTrees count at = (k : ℕ) → k < length certs → (at k ≡ none) ⊎ AreTrees count (at k)

  there_under : (branch : Branch) (count : ℕ) (trees under : Trees) → IsUnder branch trees under → (trees ≡ none) ⊎ AreTrees (suc count) trees
      → (under ≡ none) ⊎ AreTrees branch.children under
  there_under branch count none under lower there = elim lower [
    | inl same ↦ inl same.1
    | inr other ↦ inl other.1
  ]
  there_under branch count (grow (node.Leaf leaf) below beside) under lower there = elim lower [
    | inl same ↦ let bad : None ≡ Some branch = same.0 in cc
    | inr other ↦ inl other.1
  ]
  there_under branch count (grow (node.Branch own) below beside) under lower there = elim lower [
    | inr other ↦ inl other.1
    | inl same ↦ elim there [
      | inl absent ↦ absurd (not_none (node.Branch own) below beside absent)
      | inr are ↦
          let one : Some own ≡ Some branch = same.0 in
          let is_one : own ≡ branch = cc in
          inr (subst (λ (b : Branch). AreTrees b.children under) is_one (subst (AreTrees own.children) (sym same.1) are.0))
    ]
  ]

  led_there : (branch : Branch) (count : ℕ) (trees under : Trees) → branch_on_top trees ≡ Some branch → IsUnder branch trees under
      → (trees ≡ none) ⊎ AreTrees (suc count) trees → AreTrees branch.children under
  led_there branch count none under is lower there = let bad : None ≡ Some branch = is in cc
  led_there branch count (grow (node.Leaf leaf) below beside) under is lower there = let bad : None ≡ Some branch = is in cc
  led_there branch count (grow (node.Branch own) below beside) under is lower there = elim lower [
    | inr other ↦ absurd (other.0 is)
    | inl same ↦ elim there [
      | inl absent ↦ absurd (not_none (node.Branch own) below beside absent)
      | inr are ↦
          let one : Some own ≡ Some branch = is in
          let is_one : own ≡ branch = cc in
          subst (λ (b : Branch). AreTrees b.children under) is_one (subst (AreTrees own.children) (sym same.1) are.0)
    ]
  ]

  all_beside : (count : ℕ) (trees : Trees) → (trees ≡ none) ⊎ AreTrees (suc count) trees → (beside_top trees ≡ none) ⊎ AreTrees count (beside_top trees)
  all_beside count none there = inl refl
  all_beside count (grow n below beside) there = elim there [
    | inl absent ↦ absurd (not_none n below beside absent)
    | inr are ↦ inr are.1
  ]

  joined_levels : (most : ℕ) (cs : List Choice) (above : Option Leaf) (at : ℕ → Trees) (tree : Trees) → AreLow most at → HaveTrees (length cs) at
      → SomeHasTrees (length cs) at → AreProofs i 0 cs tree → IsJoined i certs cs above at tree → levels tree ≤ most
  joined_levels most [] above at none low all some are joined = omega arith
  joined_levels most [] above at (grow n below beside) low all some are joined = absurd joined
  joined_levels most (c ∷ cs) above at none low all some are joined = absurd joined
  joined_levels most (c ∷ cs) above at (grow (node.Leaf here) below beside) low all some are joined =
      let one : 1 ≤ levels (at some.0) = some_levels (length cs) (at some.0) some.2 in
      let nothing : levels below ≡ 0 = ap levels joined.1.0 in
      let others = joined_levels most cs above (λ k. beside_top (at k)) beside (λ k inside. beside_levels (at k) most (low k inside))
      (λ k inside. all_beside (length cs) (at k) (all k inside)) (there_beside (length cs) at some) are.1.1 joined.1.1 in
      omega (arith, one, nothing, others, low some.0 some.1)
  joined_levels zero (c ∷ cs) above at (grow (node.Branch branch) below beside) low all some are joined =
      let leads = joined.0 in
      absurd (omega (arith, led_levels branch (at leads.number) leads.own, low leads.number leads.greatest.inside))
  joined_levels (suc most) (c ∷ cs) above at (grow (node.Branch branch) below beside) low all some are joined =
      let leads = joined.0 in
      let k = leads.number in
      let down = joined.1.0 in
      let lower = down.2.1.0 in
      let count : branch.children ≡ length (child_choices i c branch.kind) = below_count i 0 c (node.Branch branch) are.0 in
      let led = led_there branch (length cs) (at k) (down.1 k) leads.own (lower k leads.greatest.inside) (all k leads.greatest.inside) in
      let under = joined_levels most (child_choices i c branch.kind) down.0 down.1 below
      (λ j inside. under_levels branch (at j) (down.1 j) most (lower j inside) (low j inside))
      (λ j inside. subst (λ (n : ℕ). (down.1 j ≡ none) ⊎ AreTrees n (down.1 j)) count
      (there_under branch (length cs) (at j) (down.1 j) (lower j inside) (all j inside)))
      (k, leads.greatest.inside, subst (λ (n : ℕ). AreTrees n (down.1 k)) count led) are.1.0 down.2.1.1 in
      let others = joined_levels (suc most) cs above (λ j. beside_top (at j)) beside (λ j inside. beside_levels (at j) (suc most) (low j inside))
      (λ j inside. all_beside (length cs) (at j) (all j inside)) (there_beside (length cs) at some) are.1.1 joined.1.1 in
      omega (arith, under, others)

  pub joined_is_tree : (tree : Trees) → 0 < length certs → ((k : ℕ) → k < length certs → IsTree (own_trees certs k)) → IsRight i tree
      → IsJoinedTree i certs tree → IsTree tree
  joined_is_tree tree some trees right joined = record {
    one = proofs_are_trees i 0 (root_choice i ∷ []) tree right;
    shallow =
        joined_levels (most_branches_above + 1) (root_choice i ∷ []) None (own_trees certs) tree (λ k inside. (trees k inside).shallow)
        (λ k inside. inr (trees k inside).one) (0, some, (trees 0 some).one) right joined;
  }
