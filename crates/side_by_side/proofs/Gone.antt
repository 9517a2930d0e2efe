-- One certificate goes on behind the first of some places: below its branch, or behind its tree, or it takes no part.
use Rattle.std.proofs.Common.{◌≡◌, ℕ, suc, ◌+◌, ◌<◌, ◌≤◌, ◌⊎◌, List, [], ◌∷◌, ◌++◌, length, drop, slice_index_or, Option, None, Some, Bool, true, false, cond, IsTrue, IsFalse, arith, inl, inr, refl, sym, ap, subst, ◌∙◌, append_assoc}
use Rattle.std.proofs.lemmas.Bool.{cases_lt}
use Rattle.std.proofs.lemmas.List.{drop-drop, append-nil}
use Rattle.ttp_model.specs.declared.step.Leaf.{Leaf}
use Rattle.tt_choice.specs.Choice.{Choice}
use Rattle.certificate.specs.declared.branch.Branch.{Branch}
use Rattle.certificate.specs.declared.node.Node.{Node}
use Rattle.certificate.specs.declared.node.Node.TheVariants as node
use Rattle.certificate.specs.Trees.{Trees, none, grow, children, AreTrees, preorder}
use Rattle.side_by_side.specs.declared.side.Side.{Side}
use Rattle.side_by_side.specs.Joined.{branch_on_top, below_top, beside_top}
use Rattle.side_by_side.specs.Passing.{Group, HasThere, IsLeft, IsPassed}
use Rattle.side_by_side.proofs.Tops.{not_none}
use Rattle.side_by_side.proofs.LeftBehind.{level_alike, behind_first, below_first}

-- what is left of it then, and how much of it is at the places below and beside
pub record GoneOn (height : ℕ) (nodes : List Node) (old new : Side) (count below_count : ℕ) (trees under : Trees) (more : List Node) : Type 0 where
  pub left : drop new.passed nodes ≡ preorder under ++ (preorder (beside_top trees) ++ more)
  pub below : HasThere (suc height) new.level below_count under
  pub beside : HasThere height new.level count (beside_top trees)
  pub level : ((height ≤ old.level) × (height ≤ new.level)) ⊎ (new.level ≡ old.level)

module _ (height : ℕ) (nodes : List Node) (old new : Side) (count below_count : ℕ) (branch : Branch) (more : List Node) (same_count : branch.children ≡ below_count) where
  -- nothing is there
  gone_away : (on : Bool) → IsPassed nodes height on old new → drop old.passed nodes ≡ more → HasThere height old.level (suc count) none
      → GoneOn height nodes old new count below_count none none more
  gone_away on passed left there =
      let away : old.level < height = elim (cases_lt old.level height) [
        | inl less ↦ less
        | inr here ↦ absurd (there.shared here)
      ] in
      let same = passed.away away in
      let level : new.level ≡ old.level = ap (λ (s : Side). s.level) same in
      record {
        left = ap (λ (s : Side). drop s.passed nodes) same ∙ left;
        below = record { shared = λ h. absurd (omega (arith, h, level, away)); passed = λ h. refl };
        beside = record { shared = λ h. absurd (omega (arith, h, level, away)); passed = λ h. refl };
        level = inr level;
      }

  module _ (below beside : Trees) (more_are : AreTrees count beside) (here : height ≤ old.level) where
    -- below its branch
    gone_down : (own : Branch) → own ≡ branch → AreTrees own.children below → IsPassed nodes height true old new
        → drop old.passed nodes ≡ preorder (grow (node.Branch own) below beside) ++ more
        → GoneOn height nodes old new count below_count (grow (node.Branch own) below beside) below more
    gone_down own same are passed left =
        let is = passed.down here refl in
        let level : new.level ≡ height + 1 = ap (λ (s : Side). s.level) is in
        let next : new.passed ≡ old.passed + 1 = ap (λ (s : Side). s.passed) is in
        let children_are : own.children ≡ below_count = ap (λ (b : Branch). b.children) same ∙ same_count in
        record {
          left =
              ap (λ (n : ℕ). drop n nodes) next ∙ (sym (drop-drop 1 old.passed nodes) ∙ (ap (drop 1) left
              ∙ append_assoc (preorder below) (preorder beside) more));
          below = record {
            shared = λ h. subst (λ (n : ℕ). AreTrees n below) children_are are;
            passed = λ h. absurd (omega (arith, h, level));
          };
          beside = record { shared = λ h. more_are; passed = λ h. absurd (omega (arith, h, level)) };
          level = inl (here, omega (arith, level));
        }

    -- behind its tree
    gone_behind : (own : Node) → AreTrees (children own) below → IsPassed nodes height false old new
        → drop old.passed nodes ≡ preorder (grow own below beside) ++ more
        → GoneOn height nodes old new count below_count (grow own below beside) none more
    gone_behind own are passed left =
        let level = passed.level here refl in
        let alone : preorder (grow own below none) ++ (preorder beside ++ more) ≡ preorder (grow own below beside) ++ more =
        ap (λ (ns : List Node). own ∷ ns)
        (ap (λ (ns : List Node). ns ++ (preorder beside ++ more)) (append-nil (preorder below)) ∙ sym (append_assoc (preorder below) (preorder beside) more)) in
        record {
          left = passed.behind here refl (grow own below none) (preorder beside ++ more) (are, tt) (left ∙ sym alone);
          below = record { shared = λ h. absurd (omega (arith, h, level)); passed = λ h. refl };
          beside = record { shared = λ h. more_are; passed = λ h. absurd (omega (arith, h, level)) };
          level = inl (here, omega (arith, level));
        }

  there_is : (own : Node) (below beside : Trees) → HasThere height old.level (suc count) (grow own below beside) → height ≤ old.level
  there_is own below beside there = elim (cases_lt old.level height) [
    | inl less ↦ absurd (not_none own below beside (there.passed less))
    | inr here ↦ here
  ]

  pub gone_on : (trees : Trees) (on : Bool) → (IsTrue on → branch_on_top trees ≡ Some branch) → IsPassed nodes height on old new
      → drop old.passed nodes ≡ preorder trees ++ more → HasThere height old.level (suc count) trees
      → GoneOn height nodes old new count below_count trees (cond on (below_top trees) none) more
  gone_on none true same passed left there = let bad : None ≡ Some branch = same refl in cc
  gone_on none false same passed left there = gone_away false passed left there
  gone_on (grow (node.Leaf leaf) below beside) true same passed left there = let bad : None ≡ Some branch = same refl in cc
  gone_on (grow (node.Branch own) below beside) true same passed left there =
      let here = there_is (node.Branch own) below beside there in
      let are = there.shared here in
      let one : Some own ≡ Some branch = same refl in
      let is_one : own ≡ branch = cc in
      gone_down below beside are.1 here own is_one are.0 passed left
  gone_on (grow own below beside) false same passed left there =
      let here = there_is own below beside there in
      let are = there.shared here in
      gone_behind below beside are.1 here own are.0 passed left

-- The places that are still to come of it then.
module _ (k : ℕ) (g : Group) (gs : List Group) (c : Choice) (cs below_cs : List Choice) (best : Option Leaf) (flags : List Bool) (branch : Branch)
    (nodes : List Node) (old new : Side) (choices : g.choices ≡ c ∷ cs) (same_count : branch.children ≡ length below_cs)
    (passed : IsPassed nodes (length gs) (slice_index_or flags k false) old new) (left : IsLeft k (g ∷ gs) old.level (drop old.passed nodes))
    (same : IsTrue (slice_index_or flags k false) → branch_on_top (g.at k) ≡ Some branch) where
  abbrev on : Bool
  on = slice_index_or flags k false

  here : GoneOn (length gs) nodes old new (length cs) (length below_cs) (g.at k) (cond on (below_top (g.at k)) none) left.0
  here =
      gone_on (length gs) nodes old new (length cs) (length below_cs) branch left.0 same_count (g.at k) on same passed left.1.0
      (subst (λ (xs : List Choice). HasThere (length gs) old.level (length xs) (g.at k)) choices left.1.1.0)

  others : IsLeft k gs new.level left.0
  others = elim here.level [
    | inl both ↦ level_alike k gs old.level new.level left.0 both.0 both.1 left.1.1.1
    | inr same_level ↦ subst (λ (n : ℕ). IsLeft k gs n left.0) (sym same_level) left.1.1.1
  ]

  -- below a branch
  pub left_below : IsLeft k (below_first g below_cs best flags ∷ behind_first g cs ∷ gs) new.level (drop new.passed nodes)
  left_below = (preorder (beside_top (g.at k)) ++ left.0, (here.left, (here.below, (left.0, (refl, (here.beside, others))))))

  -- beside a leaf, below which none goes on
  pub left_beside : IsTrue on ⊎ IsFalse on → (IsTrue on → ⊥) → IsLeft k (behind_first g cs ∷ gs) new.level (drop new.passed nodes)
  left_beside cases none_on = elim cases [
    | inl is ↦ absurd (none_on is)
    | inr not ↦
        let nothing : preorder (cond on (below_top (g.at k)) none) ≡ [] = ap (λ (b : Bool). preorder (cond b (below_top (g.at k)) none)) not in
        (left.0, (here.left ∙ ap (λ (ns : List Node). ns ++ (preorder (beside_top (g.at k)) ++ left.0)) nothing, (here.beside, others)))
  ]
