-- The greatest bound that a tree which is right proves is the least of its goals, and one past the horizon at most.
use Rattle.std.proofs.Common.{◌≡◌, ℕ, ◌+◌, ◌≤◌, List, [], ◌∷◌, ◌++◌, arith, refl}
use Rattle.ttp_model.specs.Instance.{Instance}
use Rattle.tt_choice.specs.Choice.{Choice}
use Rattle.tt_choice.specs.Branches.{root_choice}
use Rattle.certificate.specs.declared.node.Node.{Node}
use Rattle.certificate.specs.declared.node.Node.TheVariants as node
use Rattle.certificate.specs.Trees.{Trees, none, grow, preorder}
use Rattle.tree_check.specs.Proofs.{choices_below, Suits, AreProofs}
use Rattle.side_by_side.specs.Bounds.{IsRight, IsGreatestBound, lower, lowest}

lower_le : (low : ℕ) (n : Node) → lower low n ≤ low
lower_le low (node.Branch branch) = omega arith
lower_le low (node.Leaf leaf) = omega arith

pub lowest_le : (low : ℕ) (nodes : List Node) → lowest low nodes ≤ low
lowest_le low [] = omega arith
lowest_le low (n ∷ nodes) = omega (arith, lowest_le (lower low n) nodes, lower_le low n)

pub lowest-append : (low : ℕ) (xs ys : List Node) → lowest low (xs ++ ys) ≡ lowest (lowest low xs) ys
lowest-append low [] ys = refl
lowest-append low (x ∷ xs) ys = lowest-append (lower low x) xs ys

-- a node that is right reaches all bounds that are no greater than what is the least with it
suits_low : (i : Instance) (low most : ℕ) (c : Choice) (n : Node) → Suits i 0 c n → low ≤ lower most n → Suits i low c n
suits_low i low most c (node.Branch branch) suits le = suits
suits_low i low most c (node.Leaf leaf) suits le = record { goal = omega (arith, le); closes = suits.closes }

pub proofs_low : (i : Instance) (low most : ℕ) (cs : List Choice) (trees : Trees) → AreProofs i 0 cs trees → low ≤ lowest most (preorder trees)
    → AreProofs i low cs trees
proofs_low i low most [] none are le = tt
proofs_low i low most [] (grow n below beside) are le = absurd are
proofs_low i low most (c ∷ cs) none are le = absurd are
proofs_low i low most (c ∷ cs) (grow n below beside) are le =
    let here = lower most n in
    let parts : lowest here (preorder below ++ preorder beside) ≡ lowest (lowest here (preorder below)) (preorder beside) =
    lowest-append here (preorder below) (preorder beside) in
    let behind = lowest_le (lowest here (preorder below)) (preorder beside) in
    let first = lowest_le here (preorder below) in (
      suits_low i low most c n are.0 (omega (arith, le, parts, behind, first)),
      (
        proofs_low i low here (choices_below i c n) below are.1.0 (omega (arith, le, parts, behind)),
        proofs_low i low (lowest here (preorder below)) cs beside are.1.1 (omega (arith, le, parts)),
      ),
    )

-- and it proves no other
suits_least : (i : Instance) (low most : ℕ) (c : Choice) (n : Node) → Suits i low c n → low ≤ most → low ≤ lower most n
suits_least i low most c (node.Branch branch) suits le = le
suits_least i low most c (node.Leaf leaf) suits le = omega (arith, le, suits.goal)

pub least_of_proofs : (i : Instance) (low most : ℕ) (cs : List Choice) (trees : Trees) → AreProofs i low cs trees → low ≤ most
    → low ≤ lowest most (preorder trees)
least_of_proofs i low most [] none are le = le
least_of_proofs i low most [] (grow n below beside) are le = absurd are
least_of_proofs i low most (c ∷ cs) none are le = absurd are
least_of_proofs i low most (c ∷ cs) (grow n below beside) are le =
    let here = suits_least i low most c n are.0 le in
    let under = least_of_proofs i low (lower most n) (choices_below i c n) below are.1.0 here in
    let others = least_of_proofs i low (lowest (lower most n) (preorder below)) cs beside are.1.1 under in
    omega (arith, others, lowest-append (lower most n) (preorder below) (preorder beside))

pub greatest_bound : (i : Instance) (tree : Trees) → IsRight i tree → IsGreatestBound i tree (lowest (i.cluster.horizon + 1) (preorder tree))
greatest_bound i tree right = record {
  within = lowest_le (i.cluster.horizon + 1) (preorder tree);
  proved =
      proofs_low i (lowest (i.cluster.horizon + 1) (preorder tree)) (i.cluster.horizon + 1) (root_choice i ∷ []) tree right (omega arith);
  greatest = λ other within proves. least_of_proofs i other (i.cluster.horizon + 1) (root_choice i ∷ []) tree proves within;
}
