-- The line on top of what is left of a certificate, and what is found of those of all.
use Rattle.std.proofs.Common.{◌≡◌, ℕ, suc, ◌<◌, ◌≤◌, List, ◌∷◌, ◌++◌, length, drop, Option, None, Some, Bool, cond, arith, inl, inr, refl, sym, ap, subst, ◌∙◌, lt-ltb, le-ltb}
use Rattle.std.proofs.lemmas.Bool.{cases_lt}
use Rattle.ttp_model.specs.declared.step.Leaf.{Leaf}
use Rattle.tt_choice.specs.Choice.{Choice}
use Rattle.certificate.specs.declared.branch.Branch.{Branch}
use Rattle.certificate.specs.declared.head.Head.{Head}
use Rattle.certificate.specs.declared.head.Head.TheVariants.{OfBranch}
use Rattle.certificate.specs.declared.node.Node.{Node}
use Rattle.certificate.specs.declared.node.Node.TheVariants as node
use Rattle.certificate.specs.Trees.{Trees, none, grow, preorder}
use Rattle.certificate.specs.Words.{head_of}
use Rattle.side_by_side.specs.declared.side.Side.{Side}
use Rattle.side_by_side.specs.declared.side.Compared.TheVariants.{Goals, Bounds}
use Rattle.side_by_side.specs.Joined.{IsFirstGreatest, leaf_on_top, branch_on_top, goal_on_top, low_on_top, ReachesGoal, KeepsAbove, TakesOwn}
use Rattle.side_by_side.specs.Found.{IsFound, first_head, goal_of, number_of, top_of}
use Rattle.side_by_side.specs.Passing.{GoesOn, Group, HasThere, IsLeft}
use Rattle.side_by_side.proofs.Tops.{not_none}

abbrev pub head_on_top : Trees → Option Head
head_on_top none = None
head_on_top (grow node below beside) = Some (head_of node)

head_there : (side : Side) (depth count : ℕ) (trees : Trees) (more nodes : List Node) → drop side.passed nodes ≡ preorder trees ++ more
    → HasThere depth side.level (suc count) trees → top_of nodes side depth ≡ head_on_top trees
head_there side depth count none more nodes left there =
    let away : side.level < depth = elim (cases_lt side.level depth) [
      | inl less ↦ less
      | inr here ↦ absurd (there.shared here)
    ] in
    ap (λ (b : Bool). cond b None (first_head (drop side.passed nodes))) (lt-ltb side.level depth away)
head_there side depth count (grow own below beside) more nodes left there =
    let here : depth ≤ side.level = elim (cases_lt side.level depth) [
      | inl less ↦ absurd (not_none own below beside (there.passed less))
      | inr here ↦ here
    ] in
    ap (λ (b : Bool). cond b None (first_head (drop side.passed nodes))) (le-ltb side.level depth here) ∙ ap first_head left

-- what a certificate has on top at a place
pub top_there : (k : ℕ) (g : Group) (gs : List Group) (c : Choice) (cs : List Choice) (side : Side) (nodes : List Node) → g.choices ≡ c ∷ cs
    → IsLeft k (g ∷ gs) side.level (drop side.passed nodes) → top_of nodes side (length gs) ≡ head_on_top (g.at k)
top_there k g gs c cs side nodes choices left =
    head_there side (length gs) (length cs) (g.at k) left.0 nodes left.1.0
    (subst (λ (xs : List Choice). HasThere (length gs) side.level (length xs) (g.at k)) choices left.1.1.0)

pub goals_there : (low : ℕ) (trees : Trees) → number_of Goals low (head_on_top trees) ≡ goal_on_top trees
goals_there low none = refl
goals_there low (grow (node.Branch branch) below beside) = refl
goals_there low (grow (node.Leaf leaf) below beside) = refl

pub bounds_there : (low : ℕ) (trees : Trees) → number_of Bounds low (head_on_top trees) ≡ low_on_top low trees
bounds_there low none = refl
bounds_there low (grow (node.Branch branch) below beside) = refl
bounds_there low (grow (node.Leaf leaf) below beside) = refl

-- a certificate goes on where it has just that branch
pub goes_there : (branch : Branch) (trees : Trees) → GoesOn (Some branch) (head_on_top trees) → branch_on_top trees ≡ Some branch
goes_there branch none goes = cc
goes_there branch (grow (node.Leaf leaf) below beside) goes = cc
goes_there branch (grow (node.Branch own) below beside) goes = let same : own ≡ branch = cc in ap (λ (b : Branch). Some b) same

pub there_goes : (branch : Branch) (trees : Trees) → branch_on_top trees ≡ Some branch → GoesOn (Some branch) (head_on_top trees)
there_goes branch none is = cc
there_goes branch (grow (node.Leaf leaf) below beside) is = cc
there_goes branch (grow (node.Branch own) below beside) is = let same : own ≡ branch = cc in ap (λ (b : Branch). Some (OfBranch b)) same

-- ---- what is found

greatest_alike : (count : ℕ) (has other : ℕ → Option ℕ) (k most : ℕ) → ((j : ℕ) → j < count → has j ≡ other j) → IsFirstGreatest count has k most
    → IsFirstGreatest count other k most
greatest_alike count has other k most same g = record {
  inside = g.inside;
  own = sym (same k g.inside) ∙ g.own;
  greatest = λ j number inside is. g.greatest j number inside (same j inside ∙ is);
  first = λ j number before is. g.first j number before (same j (omega (arith, before, g.inside)) ∙ is);
}

pub found_alike : (count : ℕ) (has other : ℕ → Option ℕ) (above found : Option ℕ) → ((j : ℕ) → j < count → has j ≡ other j)
    → IsFound count has above found → IsFound count other above found
found_alike count has other above None same found = λ k number inside is. found k number inside (same k inside ∙ is)
found_alike count has other above (Some k) same found = (found.0, greatest_alike count has other k found.0 same found.1, found.2)

reaches_from : (above : Option Leaf) (most goal : ℕ) → goal_of above ≡ Some most → goal ≤ most → ReachesGoal above goal
reaches_from None most goal is le = let bad : None ≡ Some most = is in cc
reaches_from (Some leaf) most goal is le =
    let one : Some leaf.goal ≡ Some most = is in
    let same : leaf.goal ≡ most = cc in
    (leaf, refl, omega (arith, same, le))

pub keeps_found : (count : ℕ) (at : ℕ → Trees) (above : Option Leaf) → IsFound count (λ k. goal_on_top (at k)) (goal_of above) None
    → KeepsAbove count above at above
keeps_found count at above found = record {
  same = refl;
  enough = λ k goal inside is. let reached = found k goal inside is in reaches_from above reached.0 goal reached.1 reached.2;
}

-- a goal on top is a leaf's
pub leaf_of_goal : (trees : Trees) (goal : ℕ) → goal_on_top trees ≡ Some goal → (leaf : Leaf) × (leaf_on_top trees ≡ Some leaf) × (leaf.goal ≡ goal)
leaf_of_goal none goal is = let bad : None ≡ Some goal = is in cc
leaf_of_goal (grow (node.Branch branch) below beside) goal is = let bad : None ≡ Some goal = is in cc
leaf_of_goal (grow (node.Leaf leaf) below beside) goal is =
    let one : Some leaf.goal ≡ Some goal = is in
    let same : leaf.goal ≡ goal = cc in
    (leaf, refl, same)

-- and a bound there that of a branch
pub branch_of_low : (trees : Trees) (stated low : ℕ) → low_on_top stated trees ≡ Some low → (branch : Branch) × (branch_on_top trees ≡ Some branch) × (low ≡ stated)
branch_of_low none stated low is = let bad : None ≡ Some low = is in cc
branch_of_low (grow (node.Branch branch) below beside) stated low is =
    let one : Some stated ≡ Some low = is in
    let same : low ≡ stated = cc in
    (branch, refl, same)
branch_of_low (grow (node.Leaf leaf) below beside) stated low is = let bad : None ≡ Some low = is in cc

pub takes_found : (count : ℕ) (at : ℕ → Trees) (above : Option Leaf) (k : ℕ) (leaf : Leaf) → leaf_on_top (at k) ≡ Some leaf
    → IsFound count (λ j. goal_on_top (at j)) (goal_of above) (Some k) → TakesOwn count above at (Some leaf)
takes_found count at above k leaf own found =
    let there = leaf_of_goal (at k) found.0 found.1.own in
    let one : Some there.0 ≡ Some leaf = sym there.1 ∙ own in
    let same : there.0 ≡ leaf = cc in
    let goal : found.0 ≡ leaf.goal = sym there.2 ∙ ap (λ (l : Leaf). l.goal) same in
    record {
      number = k;
      leaf = leaf;
      best_is = refl;
      own = own;
      greatest = subst (λ (n : ℕ). IsFirstGreatest count (λ j. goal_on_top (at j)) k n) goal found.1;
      more = λ other is.
          let less = found.2 other.goal (ap goal_of is) in
          omega (arith, less, goal);
    }
