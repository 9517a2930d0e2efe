-- Trees side by side, the first ones and the others, as going through their nodes parts them.
use Rattle.std.proofs.Common.{◌≡◌, ℕ, zero, suc, ◌+◌, ◌⊎◌, List, [], ◌∷◌, ◌++◌, length, arith, inl, inr, refl, sym, subst, ◌∙◌, zero-add}
use Rattle.ttp_model.specs.Instance.{Instance}
use Rattle.tt_choice.specs.Choice.{Choice}
use Rattle.tt_choice.proofs.ChildLists.{length-child_choices}
use Rattle.certificate.specs.declared.node.Node.{Node}
use Rattle.certificate.specs.declared.node.Node.TheVariants.{Branch, Leaf}
use Rattle.certificate.specs.Trees.{Trees, none, grow, children, AreTrees, first_trees, trees_after}
use Rattle.certificate.specs.Lines.{node_lines, lines}
use Rattle.certificate.proofs.TreeLists.{lines-grow}
use Rattle.tree_check.specs.declared.fault.NodeFault.{NodeFault}
use Rattle.tree_check.specs.Proofs.{choices_below, Suits, AreProofs}
use Rattle.tree_check.specs.Faults.{IsFirstTreeFault}

-- a node that suits has as many children as it leads to choices
pub below_count : (i : Instance) (low : ℕ) (c : Choice) (node : Node) → Suits i low c node → children node ≡ length (choices_below i c node)
below_count i low c (Branch branch) suits = suits.just ∙ sym (length-child_choices i c branch.kind)
below_count i low c (Leaf leaf) suits = refl

-- the first trees are proofs for the first choices, and those behind them for the others
pub AreProofs-split : (i : Instance) (low : ℕ) (cs ds : List Choice) (trees : Trees) → AreProofs i low (cs ++ ds) trees
    → AreProofs i low cs (first_trees (length cs) trees) × AreProofs i low ds (trees_after (length cs) trees)
unfolding first_trees trees_after
AreProofs-split i low [] ds trees are = (_, are)
AreProofs-split i low (c ∷ cs) ds none are = absurd are
AreProofs-split i low (c ∷ cs) ds (grow node below beside) are =
    let rest = AreProofs-split i low cs ds beside are.1.1 in
    ((are.0, (are.1.0, rest.0)), rest.1)

-- the first fault is one of the first trees, or, where those are proofs, one of the others
pub IsFirstFault-split : (i : Instance) (low : ℕ) (cs ds : List Choice) (trees : Trees) (line at : ℕ) (fault : NodeFault)
    → IsFirstTreeFault i low (cs ++ ds) trees line at fault
    → IsFirstTreeFault i low cs (first_trees (length cs) trees) line at fault ⊎
    (AreProofs i low cs (first_trees (length cs) trees) × IsFirstTreeFault i low ds (trees_after (length cs) trees)
    (line + lines (first_trees (length cs) trees)) at fault)
unfolding first_trees trees_after
IsFirstFault-split i low [] ds trees line at fault is =
    let here : line ≡ line + 0 = omega arith in
    inr (_, subst (λ (l : ℕ). IsFirstTreeFault i low ds trees l at fault) here is)
IsFirstFault-split i low (c ∷ cs) ds none line at fault is = absurd is
IsFirstFault-split i low (c ∷ cs) ds (grow node below beside) line at fault is = elim is [
  | inl own ↦ inl (inl own)
  | inr later ↦ elim later.1 [
    | inl lower ↦ inl (inr (later.0, inl lower))
    | inr aside ↦ elim (IsFirstFault-split i low cs ds beside (line + node_lines node + lines below) at fault aside.1) [
      | inl first ↦ inl (inr (later.0, inr (aside.0, first)))
      | inr others ↦
          let grown = lines-grow node below (first_trees (length cs) beside) in
          let here : line + node_lines node + lines below + lines (first_trees (length cs) beside)
          ≡ line + lines (grow node below (first_trees (length cs) beside)) = omega (arith, grown) in
          inr ((later.0, (aside.0, others.0)), subst (λ (l : ℕ). IsFirstTreeFault i low ds (trees_after (length cs) beside) l at fault) here others.1)
    ]
  ]
]

-- so many trees in front, and so many others
pub AreTrees-join : (j k : ℕ) (trees : Trees) → AreTrees j (first_trees j trees) → AreTrees k (trees_after j trees) → AreTrees (j + k) trees
unfolding first_trees trees_after
AreTrees-join zero k trees first others = rw (zero-add k) others
AreTrees-join (suc j) k none first others = absurd first
AreTrees-join (suc j) k (grow node below beside) first others =
    let sum : suc j + k ≡ suc (j + k) = omega arith in
    rw sum (first.0, AreTrees-join j k beside first.1 others)
