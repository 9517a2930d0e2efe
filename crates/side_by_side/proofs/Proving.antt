-- What a joined tree proves.
use Rattle.std.proofs.Common.{◌≡◌, ℕ, ◌<◌, ◌≤◌, ◌⊎◌, List, [], ◌∷◌, Option, None, Some, length, arith, inl, inr, refl, sym, ap, subst}
use Rattle.ttp_model.specs.declared.step.Leaf.{Leaf}
use Rattle.ttp_model.specs.Instance.{Instance}
use Rattle.tt_choice.specs.Choice.{Choice}
use Rattle.tt_choice.specs.Branches.{root_choice, child_choices}
use Rattle.certificate.specs.declared.branch.Branch.{Branch}
use Rattle.certificate.specs.declared.node.Node.TheVariants as node
use Rattle.certificate.specs.Trees.{Trees, none, grow}
use Rattle.certificate.specs.Cert.{Cert}
use Rattle.tree_check.specs.Proofs.{AreProofs, Proves}
use Rattle.side_by_side.specs.Joined.{certificate_at, own_trees, beside_top, ReachesGoal, IsBest, Leads, StandsAlone, AreUnder, IsJoined, IsJoinedTree, low_on_top}
use Rattle.side_by_side.specs.Bounds.{IsRight, IsGreatestBound}
use Rattle.side_by_side.proofs.Stands.{stands_closes, stands_goal}
use Rattle.side_by_side.proofs.Tops.{ProofsOrNone, proofs_beside, some_beside, some_under, led_branch, led_under, top_of_proofs, best_keeps, best_takes, no_low}

-- Each certificate has proofs of a bound of its own where it has trees, and where one proves as much as is wanted, so does each with a
-- stated bound that is no less.
module _ (i : Instance) (certs : List Cert) (most : ℕ) (proved : ℕ → ℕ)
    (rises : (j k : ℕ) → (certificate_at certs j).low ≤ (certificate_at certs k).low → most ≤ proved j → most ≤ proved k) where
  abbrev HaveProofs : List Choice → (ℕ → Trees) → Type 0
  HaveProofs cs at = (k : ℕ) → k < length certs → ProofsOrNone i (proved k) cs (at k)

  -- one of them proves as much there
  abbrev Reaching : List Choice → (ℕ → Trees) → Type 0
  Reaching cs at = (k : ℕ) × (k < length certs) × (most ≤ proved k) × AreProofs i (proved k) cs (at k)

  -- nothing is wanted, or one of them reaches it, or the leaf from above
  abbrev Reach : List Choice → Option Leaf → (ℕ → Trees) → Type 0
  Reach cs above at = (most ≡ 0) ⊎ (Reaching cs at ⊎ ReachesGoal above most)

  reach_beside : (c : Choice) (cs : List Choice) (above : Option Leaf) (at : ℕ → Trees) → Reach (c ∷ cs) above at
      → Reach cs above (λ k. beside_top (at k))
  reach_beside c cs above at reach = elim reach [
    | inl nothing ↦ inl nothing
    | inr some ↦ elim some [
      | inl one ↦ inr (inl (one.0, one.1, one.2, proofs_beside i (proved one.0) c cs (at one.0) one.3))
      | inr other ↦ inr (inr other)
    ]
  ]

  -- one that has a branch there proves as much
  abbrev Branching : (ℕ → Trees) → Type 0
  Branching at =
      (k : ℕ) × (k < length certs) × (most ≤ proved k) × (low_on_top (certificate_at certs k).low (at k) ≡ Some (certificate_at certs k).low)

  -- the best leaf at a place reaches it, or one that has a branch there does
  reach_here : (c : Choice) (cs : List Choice) (above : Option Leaf) (at : ℕ → Trees) (best : Option Leaf) → IsBest (length certs) above at best
      → Reach (c ∷ cs) above at → (most ≡ 0) ⊎ (ReachesGoal best most ⊎ Branching at)
  reach_here c cs above at best is reach = elim reach [
    | inl nothing ↦ inl nothing
    | inr some ↦ elim some [
      | inr other ↦ inr (inl (best_keeps (length certs) above at best most is other))
      | inl one ↦ elim (top_of_proofs i (proved one.0) c cs (at one.0) (certificate_at certs one.0).low one.3) [
        | inl goal ↦
            let reaches = best_takes (length certs) above at best one.0 goal.0 is one.1 goal.1 in
            inr (inl (reaches.0, reaches.1, omega (arith, reaches.2, goal.2, one.2)))
        | inr has ↦ inr (inr (one.0, one.1, one.2, has))
      ]
    ]
  ]

  -- a leaf that stands alone is right
  alone_goal : (c : Choice) (cs : List Choice) (above : Option Leaf) (at : ℕ → Trees) (here : Leaf) → Reach (c ∷ cs) above at
      → StandsAlone i certs c above at here → most ≤ here.goal
  alone_goal c cs above at here reach alone =
      let goal = stands_goal i c alone.leaf here alone.stands in
      elim (reach_here c cs above at (Some alone.leaf) alone.best reach) [
        | inl nothing ↦ omega (arith, nothing)
        | inr some ↦ elim some [
          | inl reaches ↦
              let one : Some alone.leaf ≡ Some reaches.0 = reaches.1 in
              let same : alone.leaf ≡ reaches.0 = cc in
              omega (arith, reaches.2, ap (λ (l : Leaf). l.goal) same, goal)
          | inr has ↦ absurd (no_low (at has.0) (certificate_at certs has.0).low (alone.no_branch has.0 has.1) has.3)
        ]
      ]

  -- below a branch that leads, with the best leaf
  reach_under : (c : Choice) (cs : List Choice) (above : Option Leaf) (at : ℕ → Trees) (branch : Branch) (best : Option Leaf) (under : ℕ → Trees)
      → HaveProofs (c ∷ cs) at → Reach (c ∷ cs) above at → (leads : Leads certs at branch) → IsBest (length certs) above at best
      → AreUnder (length certs) branch at under → Reach (child_choices i c branch.kind) best under
  reach_under c cs above at branch best under have reach leads is lower = elim (reach_here c cs above at best is reach) [
    | inl nothing ↦ inl nothing
    | inr some ↦ elim some [
      | inl reaches ↦ inr (inr reaches)
      | inr has ↦
          let k = leads.number in
          let inside = leads.greatest.inside in
          inr (inl (
            k,
            inside,
            rises has.0 k (leads.greatest.greatest has.0 (certificate_at certs has.0).low has.1 has.3) has.2,
            led_under i (proved k) c cs branch (at k) (under k) leads.own (have k inside) (lower k inside),
          ))
    ]
  ]

  pub joined_proves : (cs : List Choice) (above : Option Leaf) (at : ℕ → Trees) (tree : Trees) → HaveProofs cs at → Reach cs above at
      → IsJoined i certs cs above at tree → AreProofs i most cs tree
  joined_proves [] above at none have reach joined = tt
  joined_proves [] above at (grow node below beside) have reach joined = absurd joined
  joined_proves (c ∷ cs) above at none have reach joined = absurd joined
  joined_proves (c ∷ cs) above at (grow (node.Leaf here) below beside) have reach joined =
      let alone = joined.0 in
      let others = joined_proves cs above (λ k. beside_top (at k)) beside (λ k inside. some_beside i (proved k) c cs (at k) (have k inside))
      (reach_beside c cs above at reach) joined.1.1 in (
        record { goal = alone_goal c cs above at here reach alone; closes = stands_closes i c alone.leaf here alone.stands },
        (subst (AreProofs i most []) (sym joined.1.0) tt, others),
      )
  joined_proves (c ∷ cs) above at (grow (node.Branch branch) below beside) have reach joined =
      let leads = joined.0 in
      let down = joined.1.0 in
      let k = leads.number in
      let lower = down.2.1.0 in
      let under = joined_proves (child_choices i c branch.kind) down.0 down.1 below
      (λ j inside. some_under i (proved j) c cs branch (at j) (down.1 j) (have j inside) (lower j inside))
      (reach_under c cs above at branch down.0 down.1 have reach leads down.2.0 lower) down.2.1.1 in
      let others = joined_proves cs above (λ k. beside_top (at k)) beside (λ k inside. some_beside i (proved k) c cs (at k) (have k inside))
      (reach_beside c cs above at reach) joined.1.1 in
      (led_branch i (proved k) c cs branch (at k) leads.own (have k leads.greatest.inside), (under, others))

-- The joined trees of trees that are right are right.
pub joined_right : (i : Instance) (certs : List Cert) (cs : List Choice) (above : Option Leaf) (at : ℕ → Trees) (tree : Trees)
    → ((k : ℕ) → k < length certs → (at k ≡ none) ⊎ AreProofs i 0 cs (at k)) → IsJoined i certs cs above at tree → AreProofs i 0 cs tree
joined_right i certs cs above at tree have joined =
    joined_proves i certs 0 (λ k. 0) (λ j k less enough. enough) cs above at tree have (inl refl) joined

pub joined_tree_right : (i : Instance) (certs : List Cert) (tree : Trees) → ((k : ℕ) → k < length certs → IsRight i (own_trees certs k))
    → IsJoinedTree i certs tree → IsRight i tree
joined_tree_right i certs tree right joined =
    joined_right i certs (root_choice i ∷ []) None (own_trees certs) tree (λ k inside. inr (right k inside)) joined

-- It proves each bound that is stated and proved.
pub joined_bound : (i : Instance) (certs : List Cert) (tree : Trees) (low : ℕ)
    → ((k : ℕ) → k < length certs → Proves i (certificate_at certs k)) → IsJoinedTree i certs tree → IsGreatestBound i tree low
    → (k : ℕ) → k < length certs → (certificate_at certs k).low ≤ low
joined_bound i certs tree low proves joined greatest k inside =
    let most = (certificate_at certs k).low in
    let proved : ℕ → ℕ = λ j. (certificate_at certs j).low in
    greatest.greatest most (proves k inside).low
    (joined_proves i certs most proved (λ a b less enough. omega (arith, less, enough)) (root_choice i ∷ []) None (own_trees certs) tree
    (λ j within. inr (proves j within).tree) (inr (inl (k, inside, omega arith, (proves k inside).tree))) joined)
