-- One node after another of a certificate that is all there.
use Rattle.std.proofs.Common.{◌≡◌, ℕ, suc, ◌+◌, ◌<◌, ◌≤◌, List, [], ◌∷◌, ◌++◌, length, slice_index_or, take, drop, arith, refl, sym, ap, subst, ◌∙◌}
use Rattle.std.proofs.lemmas.List.{append_assoc, append-nil, take_more, take_all, drop_more, drop_all, take-append-drop, length-append}
use Rattle.ttp_model.specs.Instance.{Instance}
use Rattle.tt_choice.specs.Choice.{Choice, bare}
use Rattle.tt_choice.specs.Branches.{root_choice}
use Rattle.certificate.specs.declared.node.Node.{Node}
use Rattle.certificate.specs.Trees.{children, preorder, AreTrees, IsTree, first_trees, trees_after, trees_of}
use Rattle.certificate.specs.Lines.{node_lines, total_lines, line_of}
use Rattle.certificate.specs.Cert.{Cert}
use Rattle.certificate.proofs.TreeLists.{total_lines-append, trees_of-preorder}
use Rattle.tree_check.specs.declared.fault.CertFault.{CertFault}
use Rattle.tree_check.specs.declared.walk.Walk.{Walk}
use Rattle.tree_check.specs.Proofs.{choices_below, Suits, AreProofs}
use Rattle.tree_check.specs.Faults.{told_line}
use Rattle.tree_check.specs.Turns.{IsWalk}
use Rattle.tree_check.specs.Seen.{TellsNode, TellsFirst, IsSeen}
use Rattle.tree_check.proofs.Trees.{below_count, AreTrees-join}
use Rattle.tree_check.proofs.Seen.{seen_none, seen_node, node_fails}

-- So many nodes were seen, and as many trees are to follow as choices are left.
pub record IsGone (i : Instance) (low : ℕ) (nodes : List Node) (k : ℕ) (w : Walk) : Type 0 where
  pub left : List Choice
  pub walk : IsWalk i w left
  pub seen : IsSeen i low (take k nodes) [] left
  pub trees : AreTrees (length left) (trees_of (drop k nodes))

pub gone_first : (i : Instance) (cert : Cert) (nodes : List Node) (w : Walk) → IsTree cert.tree → nodes ≡ preorder cert.tree
    → IsWalk i w (root_choice i ∷ []) → IsGone i cert.low nodes 0 w
gone_first i cert nodes w tree all walk =
    let same : trees_of nodes ≡ cert.tree = ap trees_of all ∙ trees_of-preorder 1 cert.tree tree.one in
    record {
      left = root_choice i ∷ [];
      walk = walk;
      seen = seen_none i cert.low;
      trees = rw same tree.one;
    }

-- the nodes from a place on begin with the node there
from_node : (nodes : List Node) (k : ℕ) (node : Node) → k < length nodes → node ≡ slice_index_or nodes k node → drop k nodes ≡ node ∷ drop (k + 1) nodes
from_node nodes k node inside here = drop_more nodes k node inside ∙ ap (λ (n : Node). n ∷ drop (k + 1) nodes) (sym here)

to_node : (nodes : List Node) (k : ℕ) (node : Node) → k < length nodes → node ≡ slice_index_or nodes k node → take (k + 1) nodes ≡ take k nodes ++ node ∷ []
to_node nodes k node inside here = take_more nodes k node inside ∙ ap (λ (n : Node). take k nodes ++ n ∷ []) (sym here)

-- and the line behind it is as many further as it takes
pub line_after : (nodes : List Node) (k : ℕ) (node : Node) → k < length nodes → node ≡ slice_index_or nodes k node
    → line_of nodes (k + 1) ≡ line_of nodes k + node_lines node
line_after nodes k node inside here =
    let more = ap total_lines (to_node nodes k node inside here) in
    omega (arith, more, total_lines-append (take k nodes) (node ∷ []))

-- a choice is left for it
left_for : (node : Node) (nodes : List Node) (left : List Choice) → AreTrees (length left) (trees_of (node ∷ nodes))
    → (c : Choice) × (others : List Choice) × (left ≡ c ∷ others)
unfolding trees_of
left_for node nodes [] trees = absurd trees
left_for node nodes (c ∷ others) trees = (c, others, refl)

trees_below : (node : Node) (nodes : List Node) (others : ℕ) → AreTrees (suc others) (trees_of (node ∷ nodes))
    → AreTrees (children node + others) (trees_of nodes)
unfolding trees_of
trees_below node nodes others trees =
    let own : AreTrees (children node) (first_trees (children node) (trees_of nodes))
    × AreTrees others (trees_after (children node) (trees_of nodes)) = trees in
    AreTrees-join (children node) others (trees_of nodes) own.0 own.1

module _ (i : Instance) (low : ℕ) (nodes : List Node) (k : ℕ) (node : Node) (w : Walk) (inside : k < length nodes)
    (here : node ≡ slice_index_or nodes k node) (gone : IsGone i low nodes k w) where
  choice_left : (c : Choice) × (others : List Choice) × (gone.left ≡ c ∷ others)
  choice_left =
      left_for node (drop (k + 1) nodes) gone.left (subst (λ (ns : List Node). AreTrees (length gone.left) (trees_of ns))
      (from_node nodes k node inside here) gone.trees)

  pub gone_next : (c : Choice) × (left : List Choice) × IsWalk i w (c ∷ left)
  gone_next = (choice_left.0, choice_left.1, subst (IsWalk i w) choice_left.2 gone.walk)

  seen_here : IsSeen i low (take k nodes) [] (choice_left.0 ∷ choice_left.1)
  seen_here = subst (IsSeen i low (take k nodes) []) choice_left.2 gone.seen

  module _ (next : Walk) (went : (c : Choice) (left : List Choice) → IsWalk i w (c ∷ left) → (bare next.choice ≡ c) × IsWalk i next left) where
    there : (bare next.choice ≡ choice_left.0) × IsWalk i next choice_left.1
    there = went choice_left.0 choice_left.1 (subst (IsWalk i w) choice_left.2 gone.walk)

    pub gone_there : (left : List Choice) × IsWalk i next left
    gone_there = (choice_left.1, there.1)

    at_choice : IsSeen i low (take k nodes) [] (bare next.choice ∷ choice_left.1)
    at_choice = subst (λ (c : Choice). IsSeen i low (take k nodes) [] (c ∷ choice_left.1)) (sym there.0) seen_here

    pub gone_on : (new : Walk) → Suits i low (bare next.choice) node
        → ((left : List Choice) → IsWalk i next left → IsWalk i new (choices_below i (bare next.choice) node ++ left)) → IsGone i low nodes (k + 1) new
    gone_on new suits below =
        let count = below_count i low (bare next.choice) node suits in
        let one : length gone.left ≡ suc (length choice_left.1) = ap length choice_left.2 in
        let all : AreTrees (suc (length choice_left.1)) (trees_of (drop k nodes)) = subst (λ (n : ℕ). AreTrees n (trees_of (drop k nodes))) one gone.trees in
        let both : AreTrees (suc (length choice_left.1)) (trees_of (node ∷ drop (k + 1) nodes)) = subst
        (λ (ns : List Node). AreTrees (suc (length choice_left.1)) (trees_of ns)) (from_node nodes k node inside here) all in
        let size : length (choices_below i (bare next.choice) node ++ choice_left.1) ≡ children node + length choice_left.1 = omega (
          arith,
          length-append (choices_below i (bare next.choice) node) choice_left.1,
          count,
        ) in
        record {
          left = choices_below i (bare next.choice) node ++ choice_left.1;
          walk = below choice_left.1 there.1;
          seen = rw (to_node nodes k node inside here) (seen_node i low (take k nodes) [] (bare next.choice) choice_left.1 node at_choice suits);
          trees = rw size (trees_below node (drop (k + 1) nodes) (length choice_left.1) both);
        }

    pub gone_fails : (line : ℕ) (fault : CertFault) → line ≡ told_line (line_of nodes k) → TellsNode i low (bare next.choice) node line fault
        → TellsFirst i low (trees_of nodes) fault
    gone_fails line fault is tells =
        let fails = node_fails i low (take k nodes) [] (bare next.choice) choice_left.1 node line fault tt at_choice is tells in
        let all : (take k nodes ++ node ∷ []) ++ drop (k + 1) nodes ≡ nodes = append_assoc (take k nodes) (node ∷ []) (drop (k + 1) nodes)
        ∙ (ap (λ (ns : List Node). take k nodes ++ ns) (sym (from_node nodes k node inside here)) ∙ take-append-drop k nodes) in
        subst (λ (ns : List Node). TellsFirst i low (trees_of ns) fault) all (fails (drop (k + 1) nodes))

-- nothing follows, and nothing is left
none_left : (left : List Choice) → AreTrees (length left) (trees_of []) → left ≡ []
unfolding trees_of
none_left [] trees = refl
none_left (c ∷ left) trees = absurd trees

pub gone_all : (i : Instance) (low : ℕ) (nodes : List Node) (k : ℕ) (w : Walk) → length nodes ≤ k → IsGone i low nodes k w
    → AreProofs i low (root_choice i ∷ []) (trees_of nodes)
unfolding trees_of
gone_all i low nodes k w past gone =
    let ended : drop k nodes ≡ [] = drop_all k nodes past in
    let none : gone.left ≡ [] = none_left gone.left (subst (λ (ns : List Node). AreTrees (length gone.left) (trees_of ns)) ended gone.trees) in
    let whole : take k nodes ++ [] ≡ nodes = append-nil (take k nodes) ∙ take_all k nodes past in
    let seen : IsSeen i low (take k nodes) [] [] = subst (IsSeen i low (take k nodes) []) none gone.seen in
    subst (λ (ns : List Node). AreProofs i low (root_choice i ∷ []) (trees_of ns)) whole (seen.proofs tt [] tt)
