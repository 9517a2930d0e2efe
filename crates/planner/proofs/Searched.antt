-- What a search leaves at its end makes a tree from which it is told.
use Rattle.std.proofs.Common.{◌≡◌, ℕ, ◌+◌, ◌≤◌, Bool, true, false, List, [], ◌∷◌, ◌++◌, Option, None, Some, refl, sym, ap, subst, ◌∙◌, arith, map, length, All}
use Rattle.std.proofs.Common.{cond, min}
use Rattle.std.specs.Prelude.{count_by, nat_le}
use Rattle.std.specs.List.Sorted.{IsPermutation}
use Rattle.std.proofs.lemmas.Bool.{le-leb}
use Rattle.std.proofs.lemmas.List.{map-append}
use Rattle.std.proofs.lemmas.List.Elements.{All-head, All-tail, All-map, All-append, All-weaker}
use Rattle.std.proofs.lemmas.List.Sums.{sum_by-cons, sum_by-append}
use Rattle.std.proofs.lemmas.List.Sorted.{IsPermutation-map, All-permutation, sum_by-IsPermutation}
use Rattle.search_workers.specs.declared.found.FoundPlan.{FoundPlan}
use Rattle.ttp_model.specs.Instance.{Instance}
use Rattle.ttp_model.specs.Chains.{IsPathBound}
use Rattle.ttp_model.specs.Rules.{IsInstance}
use Rattle.ttp_model.proofs.PlanNumbers.{delay_small}
use Rattle.certificate.specs.declared.node.Node.{Node}
use Rattle.certificate.specs.declared.node.Node.TheVariants as node
use Rattle.certificate.specs.Trees.{Trees, preorder}
use Rattle.certificate.specs.Cert.{Cert}
use Rattle.tree_check.specs.Proofs.{Proves}
use Rattle.search_workers.specs.piece.Piece.{Piece}
use Rattle.search_workers.specs.declared.outcome.Options.{Options}
use Rattle.search_workers.specs.declared.outcome.Why.{Why}
use Rattle.search_workers.specs.declared.outcome.Why.TheVariants.{Budget, Memory, CalledOff, Gap, Part}
use Rattle.search_workers.specs.Trees.{IsTreeOf, pieces_of}
use Rattle.search_workers.specs.Gathering.{HasGoal, HaveGoals, IsGathered, IsLeafPiece}
use Rattle.used_decisions.specs.Branches.{is_branch, branches}
use Rattle.planner.specs.Answers.{is_closed_at, worked_at, worked_goal, in_answer}
use Rattle.search_workers.specs.Searching.{aim_of, limit_of, IsFound, IsWorkedOut}
use Rattle.planner.specs.Searched.{AreAims, IsClosedLeaf, IsEndTree, IsReason, IsSearched}
use Rattle.search_workers.specs.declared.aims.Aims.{Aims}
use Rattle.search_workers.proofs.Goals.{goal_near, goal_past}
use Rattle.search_workers.proofs.Searching.{aim_below, weaker_goal}
use Rattle.search_workers.proofs.Existence.{tree_nodes}
use Rattle.search_workers.proofs.Proving.{gathered_proves}

abbrev nodes_of : List Piece → List Node
nodes_of pieces = map (λ (p : Piece). p.node) pieces

-- ---- counts of nodes

abbrev one : Bool → ℕ
one b = cond b 1 0

pub count_cons : (p : Node → Bool) (n : Node) (ns : List Node) → count_by p (n ∷ ns) ≡ cond (p n) 1 0 + count_by p ns
count_cons p n ns = sum_by-cons (λ (m : Node). cond (p m) 1 0) n ns

at_most_one : (b : Bool) → cond b 1 0 ≤ 1
at_most_one true = omega arith
at_most_one false = omega arith

branches_at_most : (pieces : List Piece) → count_by is_branch (nodes_of pieces) ≤ length pieces
branches_at_most [] = omega arith
branches_at_most (p ∷ pieces) =
    omega (arith, count_cons is_branch p.node (nodes_of pieces), at_most_one (is_branch p.node), branches_at_most pieces)

-- a leaf is no branch
no_branch : (p : Piece) → IsLeafPiece p → is_branch p.node ≡ false
no_branch p is = ap is_branch is.is

no_branches : (pieces : List Piece) → All IsLeafPiece pieces → count_by is_branch (nodes_of pieces) ≡ 0
no_branches [] leaves = refl
no_branches (p ∷ pieces) leaves =
    let first : one (is_branch p.node) ≡ 0 = ap one (no_branch p (All-head IsLeafPiece p pieces leaves)) in
    omega (arith, count_cons is_branch p.node (nodes_of pieces), first, no_branches pieces (All-tail IsLeafPiece p pieces leaves))

all_leaves : (i : Instance) (limit low : ℕ) (pieces : List Piece) → All (IsClosedLeaf i limit low) pieces → All IsLeafPiece pieces
all_leaves i limit low pieces leaves =
    All-weaker (IsClosedLeaf i limit low) IsLeafPiece (λ p leaf. record { leaf = leaf.leaf; is = leaf.is }) pieces leaves

-- each node with a goal at the limit is a branch or a leaf at the limit
one_of_both : (limit : ℕ) (n : Node) → HasGoal limit n → 1 ≤ cond (is_branch n) 1 0 + cond (is_closed_at limit n) 1 0
one_of_both limit (node.Branch branch) goal = omega arith
one_of_both limit (node.Leaf leaf) goal =
    let closed : one (nat_le limit leaf.goal) ≡ 1 = ap one (le-leb limit leaf.goal goal) in
    omega (arith, closed)

all_of_both : (limit : ℕ) (pieces : List Piece) → HaveGoals limit pieces → length pieces ≤ count_by is_branch (nodes_of pieces) + count_by (is_closed_at limit) (nodes_of pieces)
all_of_both limit [] goals = omega arith
all_of_both limit (p ∷ pieces) goals =
    omega (
      arith,
      count_cons is_branch p.node (nodes_of pieces),
      count_cons (is_closed_at limit) p.node (nodes_of pieces),
      one_of_both limit p.node (All-head (λ (q : Piece). HasGoal limit q.node) p pieces goals),
      all_of_both limit pieces (All-tail (λ (q : Piece). HasGoal limit q.node) p pieces goals),
    )

count_both : (p : Node → Bool) (xs ys : List Piece) → count_by p (nodes_of (xs ++ ys)) ≡ count_by p (nodes_of xs) + count_by p (nodes_of ys)
count_both p xs ys =
    ap (count_by p) (map-append (λ (q : Piece). q.node) xs ys) ∙ sum_by-append (λ (m : Node). cond (p m) 1 0) (nodes_of xs) (nodes_of ys)

-- ---- the nodes of the tree

pub nodes_moved : (pieces : List Piece) (tree : Trees) → IsTreeOf pieces tree → IsPermutation (nodes_of pieces) (preorder tree)
nodes_moved pieces tree is =
    subst (IsPermutation (nodes_of pieces)) (sym (tree_nodes tree is.one)) (IsPermutation-map (λ (p : Piece). p.node) pieces (pieces_of tree) is.same)

count_tree : (p : Node → Bool) (pieces : List Piece) (tree : Trees) → IsTreeOf pieces tree → count_by p (preorder tree) ≡ count_by p (nodes_of pieces)
count_tree p pieces tree is = sum_by-IsPermutation (λ (m : Node). cond (p m) 1 0) (nodes_of pieces) (preorder tree) (nodes_moved pieces tree is)

pub within_budget : (worked closed : List Piece) (tree : Trees) → IsTreeOf (worked ++ closed) tree → All IsLeafPiece closed → branches tree ≤ length worked
within_budget worked closed tree is leaves =
    omega (arith, count_tree is_branch (worked ++ closed) tree is, count_both is_branch worked closed, branches_at_most worked, no_branches closed leaves)

pub all_worked : (limit : ℕ) (worked closed : List Piece) (tree : Trees) → IsTreeOf (worked ++ closed) tree → HaveGoals limit worked → length worked ≤ worked_at limit tree
all_worked limit worked closed tree is goals =
    omega (
      arith,
      count_tree is_branch (worked ++ closed) tree is,
      count_tree (is_closed_at limit) (worked ++ closed) tree is,
      count_both is_branch worked closed,
      count_both (is_closed_at limit) worked closed,
      all_of_both limit worked goals,
    )

-- what holds of the goals of all pieces holds of those of the tree
tree_goals : (low : ℕ) (pieces : List Piece) (tree : Trees) → IsTreeOf pieces tree → HaveGoals low pieces → All (HasGoal low) (preorder tree)
tree_goals low pieces tree is goals =
    All-permutation (HasGoal low) (nodes_of pieces) (preorder tree) (nodes_moved pieces tree is) (All-map (HasGoal low) (λ (p : Piece). p.node) pieces goals)

-- ---- the tree at the end

pub limit_small : (i : Instance) (best : Option FoundPlan) → IsInstance i → IsFound i best → limit_of i best ≤ i.cluster.horizon + 1
limit_small i None w found = omega arith
limit_small i (Some best) w found = omega (arith, delay_small i best.plan w found.settled.valid, found.delay_is)

pub lower_goals : (high low : ℕ) → low ≤ high → (pieces : List Piece) → HaveGoals high pieces → HaveGoals low pieces
lower_goals high low le pieces goals =
    All-weaker (λ (q : Piece). HasGoal high q.node) (λ (q : Piece). HasGoal low q.node) (λ q. weaker_goal high low le q.node) pieces goals

pub goal_is : (i : Instance) (aims : Aims) (best : Option FoundPlan) → worked_goal i aims.gap best ≤ aim_of i aims best
goal_is i aims None = omega (arith, goal_past i aims (i.cluster.horizon + 1) (omega arith))
goal_is i aims (Some best) = omega (arith, goal_near i aims best.delay)

leaf_path : (i : Instance) (aim low limit bound : ℕ) → IsPathBound i bound → min bound limit ≤ aim → (p : Piece) → IsClosedLeaf i aim low p
    → HasGoal (min bound limit) p.node
leaf_path i aim low limit bound is high p leaf = subst (HasGoal (min bound limit)) (sym leaf.is) (omega (arith, leaf.path bound is, high))

module _ (i : Instance) (options : Options) (aims : Aims) (why : Why) (best : Option FoundPlan) (worked closed : List Piece) (low : ℕ) (cert : Cert)
    (w : IsInstance i) (right : AreAims i aims) (is : IsSearched i options aims why best worked closed low)
    (gathered : IsGathered low (worked ++ closed) cert) where
  abbrev aim : ℕ
  aim = aim_of i aims best

  abbrev limit : ℕ
  limit = limit_of i best

  low_small : cert.low ≤ i.cluster.horizon + 1
  low_small = omega (arith, gathered.bound, is.most, aim_below i aims best, limit_small i best w is.found)

  proved : Proves i cert
  proved = gathered_proves i (worked ++ closed) low cert is.right (omega (arith, low_small, gathered.bound)) gathered

  few : branches cert.tree ≤ options.budget
  few = omega (arith, within_budget worked closed cert.tree gathered.tree (all_leaves i aim low closed is.leaves), is.within)

  goals_from : (bound : ℕ) → IsPathBound i bound → HaveGoals (min bound limit) (worked ++ closed)
  goals_from bound path =
      let high = right.path bound limit path (limit_small i best w is.found) in
      All-append (λ (q : Piece). HasGoal (min bound limit) q.node) worked closed (lower_goals aim (min bound limit) high worked is.goals)
      (All-weaker (IsClosedLeaf i aim low) (λ (q : Piece). HasGoal (min bound limit) q.node) (leaf_path i aim low limit bound path high) closed is.leaves)

  near_goals : HaveGoals (worked_goal i aims.gap best) worked
  near_goals = lower_goals aim (worked_goal i aims.gap best) (goal_is i aims best) worked is.goals

  reason_is : (cause : Why) → IsWorkedOut options.budget worked cause → IsReason i options aims.gap best (in_answer i cert) cause
  reason_is Budget all = omega (arith, all_worked (worked_goal i aims.gap best) worked closed cert.tree gathered.tree near_goals, all)
  reason_is Memory all = omega (arith, within_budget worked closed cert.tree gathered.tree (all_leaves i aim low closed is.leaves), all)
  reason_is CalledOff all = omega (arith, within_budget worked closed cert.tree gathered.tree (all_leaves i aim low closed is.leaves), all)
  reason_is Gap all = absurd all
  reason_is Part all = absurd all

  pub search_ends : IsEndTree i options aims.gap why best (in_answer i cert)
  search_ends = record {
    proves = record { low = proved.low; tree = proved.tree };
    version = refl;
    within = few;
    most = omega (arith, gathered.bound, is.most, aim_below i aims best);
    path = λ bound path. tree_goals (min bound limit) (worked ++ closed) cert.tree gathered.tree (goals_from bound path);
    reason = reason_is why is.cause;
  }
