-- The least goal of one node more.
use Rattle.std.proofs.Common.{◌≡◌, ℕ, ◌+◌, ◌<◌, ◌≤◌, length, get_or, take, ◌⊎◌, min, List, [], ◌∷◌, ◌++◌, inl, inr, refl, sym, subst, arith}
use Rattle.std.proofs.lemmas.Bool.{cases_lt}
use Rattle.std.proofs.lemmas.List.{take_more}
use Rattle.std.proofs.lemmas.List.Elements.{All-nil, All-push, All-weaker, Contains-append_left}
use Rattle.ttp_model.specs.declared.step.Leaf.{Leaf}
use Rattle.certificate.specs.declared.branch.Branch.{Branch}
use Rattle.certificate.specs.declared.node.Node.{Node}
use Rattle.certificate.specs.declared.node.Node.TheVariants as node
use Rattle.search_workers.specs.Gathering.{HasGoal}
use Rattle.search_workers.proofs.Searching.{last_there, weaker_goal}
use Rattle.planner.specs.Searched.{HasLeafAt, IsLowest}

pub none_lowest : (limit : ℕ) → IsLowest limit [] limit
none_lowest limit = record { bound = All-nil (HasGoal limit); reached = inl refl }

-- one leaf more, at a goal
at_end : (nodes : List Node) (leaf : Leaf) (low : ℕ) → leaf.goal ≡ low → HasLeafAt (nodes ++ node.Leaf leaf ∷ []) low
at_end nodes leaf low same = record { leaf = leaf; there = last_there nodes (node.Leaf leaf); reached = same }

still_there : (nodes : List Node) (n : Node) (low : ℕ) → HasLeafAt nodes low → HasLeafAt (nodes ++ n ∷ []) low
still_there nodes n low is = record { leaf = is.leaf; there = Contains-append_left nodes (n ∷ []) (node.Leaf is.leaf) is.there; reached = is.reached }

still_reached : (limit : ℕ) (nodes : List Node) (n : Node) (low : ℕ) → (low ≡ limit) ⊎ ((low < limit) × HasLeafAt nodes low)
    → (low ≡ limit) ⊎ ((low < limit) × HasLeafAt (nodes ++ n ∷ []) low)
still_reached limit nodes n low is = elim is [ inl same ↦ inl same | inr less ↦ inr (less.0, still_there nodes n low less.1) ]

pub branch_lowest : (limit : ℕ) (nodes : List Node) (n : Node) (low : ℕ) → HasGoal low n → IsLowest limit nodes low → IsLowest limit (nodes ++ n ∷ []) low
branch_lowest limit nodes n low goal is = record {
  bound = All-push (HasGoal low) nodes n is.bound goal;
  reached = still_reached limit nodes n low is.reached;
}

pub below_limit : (limit : ℕ) (nodes : List Node) (low : ℕ) → IsLowest limit nodes low → low ≤ limit
below_limit limit nodes low is = elim is.reached [ inl same ↦ omega (arith, same) | inr less ↦ omega (arith, less.0) ]

pub leaf_lowest : (limit : ℕ) (nodes : List Node) (leaf : Leaf) (low : ℕ) → IsLowest limit nodes low
    → IsLowest limit (nodes ++ node.Leaf leaf ∷ []) (min low leaf.goal)
leaf_lowest limit nodes leaf low is = elim (cases_lt leaf.goal low) [
  | inl less ↦
      let same : leaf.goal ≡ min low leaf.goal = omega (arith, less) in
      subst (IsLowest limit (nodes ++ node.Leaf leaf ∷ [])) same (record {
        bound = All-push (HasGoal leaf.goal) nodes (node.Leaf leaf)
            (All-weaker (HasGoal low) (HasGoal leaf.goal) (λ n. weaker_goal low leaf.goal (omega (arith, less)) n) nodes is.bound) (omega arith);
        reached = inr (omega (arith, less, below_limit limit nodes low is), at_end nodes leaf leaf.goal refl);
      })
  | inr more ↦
      let same : low ≡ min low leaf.goal = omega (arith, more) in
      subst (IsLowest limit (nodes ++ node.Leaf leaf ∷ [])) same (branch_lowest limit nodes (node.Leaf leaf) low more is)
]

-- ---- one node more of a list

pub leaf_more : (limit : ℕ) (nodes : List Node) (k : ℕ) (n : Node) (leaf : Leaf) (low lower : ℕ) → k < length nodes → n ≡ get_or nodes k n
    → n ≡ node.Leaf leaf → lower ≡ min low leaf.goal → IsLowest limit (take k nodes) low → IsLowest limit (take (k + 1) nodes) lower
leaf_more limit nodes k n leaf low lower inside here same lowered is = rw (take_more nodes k n inside, ← here, same, lowered) (leaf_lowest limit (take k nodes) leaf low is)

pub branch_more : (limit : ℕ) (nodes : List Node) (k : ℕ) (n : Node) (branch : Branch) (low : ℕ) → k < length nodes → n ≡ get_or nodes k n
    → n ≡ node.Branch branch → IsLowest limit (take k nodes) low → IsLowest limit (take (k + 1) nodes) low
branch_more limit nodes k n branch low inside here same is =
    rw (take_more nodes k n inside, ← here) (branch_lowest limit (take k nodes) n low (subst (HasGoal low) (sym same) tt) is)
