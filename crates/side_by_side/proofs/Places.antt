-- One place more of a joined tree: a leaf stands there, or a branch leads on.
use Rattle.std.proofs.Common.{◌≡◌, ℕ, zero, suc, ◌+◌, ◌<◌, ◌≤◌, ◌⊎◌, List, [], ◌∷◌, ◌++◌, length, map, slice_index_or, Option, None, Some, Bool, false, cond, arith, inl, inr, refl, sym, subst, ◌∙◌, append_assoc}
use Rattle.std.specs.List.{range_with_len}
use Rattle.std.proofs.lemmas.Bool.{cases_lt}
use Rattle.ttp_model.specs.declared.step.Kind.{Kind}
use Rattle.ttp_model.specs.declared.step.Leaf.{Leaf}
use Rattle.ttp_model.specs.Instance.{Instance}
use Rattle.tt_choice.specs.Choice.{Choice, IsChoice}
use Rattle.tt_choice.specs.Branches.{IsBranch, IsOpen, child, children, child_choices}
use Rattle.tt_choice.proofs.ChildLists.{length-child_choices}
use Rattle.tt_choice.proofs.Children.{IsChoice-child}
use Rattle.tt_choice.proofs.Inside.{IsInside-self, IsInside-child}
use Rattle.tt_choice.proofs.kept.Wider.{IsInside-trans}
use Rattle.tt_infer.specs.Leaves.{ClosesLeaf}
use Rattle.certificate.specs.declared.branch.Branch.{Branch}
use Rattle.certificate.specs.declared.node.Node.{Node}
use Rattle.certificate.specs.declared.node.Node.TheVariants as node
use Rattle.certificate.specs.Trees.{Trees, none, grow, AreTrees, first_trees, trees_after, trees_of}
use Rattle.certificate.specs.Cert.{Cert}
use Rattle.tree_check.specs.Seen.{IsSeen}
use Rattle.tree_check.proofs.Seen.{seen_node}
use Rattle.side_by_side.specs.Standing.{ClosesAround}
use Rattle.side_by_side.specs.Joined.{branch_on_top, below_top, beside_top, IsBest, Leads, StandsAlone, IsUnder, IsJoined, IsJoinedTree}
use Rattle.side_by_side.specs.Passing.{Group, HasThere, AreJoined, all_choices, IsHeldAt, AreHeld, IsGroup, AreRight}
use Rattle.side_by_side.specs.Joining.{Makes}
use Rattle.side_by_side.proofs.Tops.{ProofsOrNone, not_none, some_beside, some_under}
use Rattle.side_by_side.proofs.LeftBehind.{behind_first, below_first}

cases_le : (a b : ℕ) → (a ≤ b) ⊎ (b < a)
cases_le a b = elim (cases_lt b a) [
  | inl less ↦ inr less
  | inr le ↦ inl le
]

-- ---- whatever follows

joins_leaf : (i : Instance) (certs : List Cert) (g : Group) (gs : List Group) (c : Choice) (cs : List Choice) (here : Leaf) (rest : List Node)
    → g.choices ≡ c ∷ cs → StandsAlone i certs c g.above g.at here → AreJoined i certs (behind_first g cs ∷ gs) (trees_of rest)
    → AreJoined i certs (g ∷ gs) (trees_of (node.Leaf here ∷ rest))
unfolding first_trees trees_after trees_of
joins_leaf i certs g gs c cs here rest choices alone joined =
    let P : List Choice → Type 0 = λ xs. IsJoined i certs xs g.above g.at (first_trees (length xs) (trees_of (node.Leaf here ∷ rest)))
    × AreJoined i certs gs (trees_after (length xs) (trees_of (node.Leaf here ∷ rest))) in
    let all : P (c ∷ cs) = ((alone, (refl, joined.0)), joined.1) in
    subst P (sym choices) all

-- what leads at a place, and who goes on below it
pub record LeadsOn (i : Instance) (certs : List Cert) (g : Group) (c : Choice) (branch : Branch) (best : Option Leaf) (flags : List Bool) : Type 0 where
  pub leads : Leads certs g.at branch
  pub is_best : IsBest (length certs) g.above g.at best
  pub suits : IsBranch i c branch.kind branch.children
  pub under : (k : ℕ) → k < length certs → IsUnder branch (g.at k) (cond (slice_index_or flags k false) (below_top (g.at k)) none)

joins_branch : (i : Instance) (certs : List Cert) (g : Group) (gs : List Group) (c : Choice) (cs : List Choice) (branch : Branch) (best : Option Leaf)
    (flags : List Bool) (rest : List Node) → g.choices ≡ c ∷ cs → LeadsOn i certs g c branch best flags
    → AreJoined i certs (below_first g (child_choices i c branch.kind) best flags ∷ behind_first g cs ∷ gs) (trees_of rest)
    → AreJoined i certs (g ∷ gs) (trees_of (node.Branch branch ∷ rest))
unfolding first_trees trees_after trees_of
joins_branch i certs g gs c cs branch best flags rest choices on joined =
    let below = child_choices i c branch.kind in
    let under : ℕ → Trees = λ k. cond (slice_index_or flags k false) (below_top (g.at k)) none in
    let count : length below ≡ branch.children = length-child_choices i c branch.kind ∙ sym on.suits.just in
    let Q : ℕ → Type 0 = λ n. IsJoined i certs below best under (first_trees n (trees_of rest))
    × (IsJoined i certs cs g.above (λ k. beside_top (g.at k)) (first_trees (length cs) (trees_after n (trees_of rest)))
    × AreJoined i certs gs (trees_after (length cs) (trees_after n (trees_of rest)))) in
    let parts : Q branch.children = subst Q count joined in
    let P : List Choice → Type 0 = λ xs. IsJoined i certs xs g.above g.at (first_trees (length xs) (trees_of (node.Branch branch ∷ rest)))
    × AreJoined i certs gs (trees_after (length xs) (trees_of (node.Branch branch ∷ rest))) in
    let all : P (c ∷ cs) = ((on.leads, ((best, under, (on.is_best, (on.under, parts.0))), parts.1.0)), parts.1.1) in
    subst P (sym choices) all

behind_one : (made : List Node) (n : Node) (rest : List Node) → (made ++ n ∷ []) ++ rest ≡ made ++ n ∷ rest
behind_one made n rest = append_assoc made (n ∷ []) rest

seen_first : (i : Instance) (made : List Node) (g : Group) (gs : List Group) (c : Choice) (cs : List Choice) → g.choices ≡ c ∷ cs
    → IsSeen i 0 made [] (all_choices (g ∷ gs)) → IsSeen i 0 made [] (c ∷ (cs ++ all_choices gs))
seen_first i made g gs c cs choices seen = subst (λ (xs : List Choice). IsSeen i 0 made [] (xs ++ all_choices gs)) choices seen

pub makes_leaf : (i : Instance) (certs : List Cert) (g : Group) (gs : List Group) (c : Choice) (cs : List Choice) (here : Leaf) (made : List Node)
    → g.choices ≡ c ∷ cs → StandsAlone i certs c g.above g.at here → ClosesLeaf i c here → Makes i certs (g ∷ gs) made
    → Makes i certs (behind_first g cs ∷ gs) (made ++ node.Leaf here ∷ [])
makes_leaf i certs g gs c cs here made choices alone closes makes = record {
  seen =
      seen_node i 0 made [] c (cs ++ all_choices gs) (node.Leaf here) (seen_first i made g gs c cs choices makes.seen)
      (record { goal = omega arith; closes = closes });
  joins = λ rest joined.
      subst (λ (ns : List Node). IsJoinedTree i certs (trees_of ns)) (sym (behind_one made (node.Leaf here) rest))
      (makes.joins (node.Leaf here ∷ rest) (joins_leaf i certs g gs c cs here rest choices alone joined));
}

pub makes_branch : (i : Instance) (certs : List Cert) (g : Group) (gs : List Group) (c : Choice) (cs : List Choice) (branch : Branch)
    (best : Option Leaf) (flags : List Bool) (made : List Node) → g.choices ≡ c ∷ cs → LeadsOn i certs g c branch best flags
    → Makes i certs (g ∷ gs) made
    → Makes i certs (below_first g (child_choices i c branch.kind) best flags ∷ behind_first g cs ∷ gs) (made ++ node.Branch branch ∷ [])
makes_branch i certs g gs c cs branch best flags made choices on makes = record {
  seen =
      seen_node i 0 made [] c (cs ++ all_choices gs) (node.Branch branch) (seen_first i made g gs c cs choices makes.seen) on.suits;
  joins = λ rest joined.
      subst (λ (ns : List Node). IsJoinedTree i certs (trees_of ns)) (sym (behind_one made (node.Branch branch) rest))
      (makes.joins (node.Branch branch ∷ rest) (joins_branch i certs g gs c cs branch best flags rest choices on joined));
}

-- ---- which leaves go down

closes_here : (i : Instance) (c : Choice) (leaf : Leaf) → IsChoice i c → ClosesLeaf i c leaf → ClosesAround i c leaf
closes_here i c leaf ok closes = record { outer = c; choice = ok; inside = IsInside-self i c; closes = closes }

-- the best leaf at a place closes a choice around it
pub best_held : (i : Instance) (c : Choice) (above best : Option Leaf) → IsChoice i c → IsHeldAt i c above
    → (best ≡ above) ⊎ ((leaf : Leaf) × (best ≡ Some leaf) × ClosesLeaf i c leaf) → IsHeldAt i c best
best_held i c above best ok held is = elim is [
  | inl same ↦ subst (IsHeldAt i c) (sym same) held
  | inr own ↦ subst (IsHeldAt i c) (sym own.1) (closes_here i c own.0 ok own.2)
]

held_inside : (i : Instance) (c : Choice) (kind : Kind) (k : ℕ) (best : Option Leaf) → IsChoice i c → IsOpen i c kind → k < children i c kind
    → IsHeldAt i c best → IsHeldAt i (child i c kind k) best
held_inside i c kind k None ok is_open there held = tt
held_inside i c kind k (Some leaf) ok is_open there held = record {
  outer = held.outer;
  choice = held.choice;
  inside = IsInside-trans i (child i c kind k) c held.outer (IsInside-child i c kind k ok is_open there) held.inside;
  closes = held.closes;
}

held_each : (i : Instance) (c : Choice) (kind : Kind) (a n : ℕ) (best : Option Leaf) → IsChoice i c → IsOpen i c kind → a + n ≤ children i c kind
    → IsHeldAt i c best → AreHeld i best (map (child i c kind) (range_with_len a n))
held_each i c kind a zero best ok is_open le held = tt
held_each i c kind a (suc n) best ok is_open le held =
    let there : a < children i c kind = omega (arith, le) in (
      (IsChoice-child i c kind a ok is_open there, held_inside i c kind a best ok is_open there held),
      held_each i c kind (a + 1) n best ok is_open (omega (arith, le)) held,
    )

pub held_below : (i : Instance) (c : Choice) (kind : Kind) (best : Option Leaf) → IsChoice i c → IsOpen i c kind → IsHeldAt i c best
    → AreHeld i best (child_choices i c kind)
held_below i c kind best ok is_open held = held_each i c kind 0 (children i c kind) best ok is_open (omega arith) held

-- ---- who takes part

beside_trees : (count : ℕ) (trees : Trees) → AreTrees (suc count) trees → AreTrees count (beside_top trees)
beside_trees count none are = absurd are
beside_trees count (grow own below beside) are = are.1

pub group_behind : (i : Instance) (certs : List Cert) (g : Group) (c : Choice) (cs : List Choice) → g.choices ≡ c ∷ cs → IsGroup i certs g
    → IsGroup i certs (behind_first g cs)
group_behind i certs g c cs choices is =
    let held : AreHeld i g.above (c ∷ cs) = subst (AreHeld i g.above) choices is.held in
    record {
      held = held.1;
      number = is.number;
      inside = is.inside;
      someone = beside_trees (length cs) (g.at is.number) (subst (λ (xs : List Choice). AreTrees (length xs) (g.at is.number)) choices is.someone);
    }

-- trees with a branch on top have its children
led_trees : (height level count : ℕ) (branch : Branch) (trees : Trees) → branch_on_top trees ≡ Some branch → HasThere height level (suc count) trees
    → (height ≤ level) ⊎ (level < height) → AreTrees branch.children (below_top trees)
led_trees height level count branch none is there cases = cc
led_trees height level count branch (grow (node.Leaf leaf) below beside) is there cases = cc
led_trees height level count branch (grow (node.Branch own) below beside) is there cases =
    let same : own ≡ branch = cc in
    elim cases [
      | inl here ↦ subst (λ (b : Branch). AreTrees b.children below) same (there.shared here).0
      | inr away ↦ absurd (not_none (node.Branch own) below beside (there.passed away))
    ]

pub group_below : (i : Instance) (certs : List Cert) (g : Group) (c : Choice) (branch : Branch) (best : Option Leaf) (flags : List Bool) (number : ℕ)
    → IsChoice i c → LeadsOn i certs g c branch best flags → IsHeldAt i c best → number < length certs
    → AreTrees branch.children (cond (slice_index_or flags number false) (below_top (g.at number)) none)
    → IsGroup i certs (below_first g (child_choices i c branch.kind) best flags)
group_below i certs g c branch best flags number ok on held inside trees =
    let count : branch.children ≡ length (child_choices i c branch.kind) = on.suits.just ∙ sym (length-child_choices i c branch.kind) in
    record {
      held = held_below i c branch.kind best ok on.suits.is_open held;
      number = number;
      inside = inside;
      someone = subst (λ (n : ℕ). AreTrees n (cond (slice_index_or flags number false) (below_top (g.at number)) none)) count trees;
    }

-- the one that leads goes on
pub leader_trees : (height level count : ℕ) (branch : Branch) (trees under : Trees) → branch_on_top trees ≡ Some branch → IsUnder branch trees under
    → HasThere height level (suc count) trees → AreTrees branch.children under
leader_trees height level count branch trees under is lower there = elim lower [
  | inr other ↦ absurd (other.0 is)
  | inl same ↦ subst (AreTrees branch.children) (sym same.1) (led_trees height level count branch trees is there (cases_le height level))
]

-- ---- what is right

pub right_behind : (i : Instance) (k : ℕ) (g : Group) (gs : List Group) (c : Choice) (cs : List Choice) → g.choices ≡ c ∷ cs → AreRight i k (g ∷ gs)
    → AreRight i k (behind_first g cs ∷ gs)
right_behind i k g gs c cs choices right =
    let here : ProofsOrNone i 0 (c ∷ cs) (g.at k) = subst (λ (xs : List Choice). ProofsOrNone i 0 xs (g.at k)) choices right.0 in
    (some_beside i 0 c cs (g.at k) here, right.1)

pub right_below : (i : Instance) (certs : List Cert) (k : ℕ) (g : Group) (gs : List Group) (c : Choice) (cs : List Choice) (branch : Branch)
    (best : Option Leaf) (flags : List Bool) → k < length certs → g.choices ≡ c ∷ cs → LeadsOn i certs g c branch best flags → AreRight i k (g ∷ gs)
    → AreRight i k (below_first g (child_choices i c branch.kind) best flags ∷ behind_first g cs ∷ gs)
right_below i certs k g gs c cs branch best flags inside choices on right =
    let here : ProofsOrNone i 0 (c ∷ cs) (g.at k) = subst (λ (xs : List Choice). ProofsOrNone i 0 xs (g.at k)) choices right.0 in (
      some_under i 0 c cs branch (g.at k) (cond (slice_index_or flags k false) (below_top (g.at k)) none) here (on.under k inside),
      right_behind i k g gs c cs choices right,
    )
