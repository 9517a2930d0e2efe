-- So far no node was at fault, and the fault is one of those that follow.
use Rattle.std.proofs.Common.{◌≡◌, ◌∙◌, ℕ, ◌+◌, ◌-◌, ◌<◌, ◌≤◌, List, [], ◌∷◌, ◌++◌, ap, arith, drop, inl, length, refl, slice_index_or, subst, sym, take}
use Rattle.std.proofs.lemmas.List.{drop_all, drop_more, take-append-drop, take_more}
use Rattle.ttp_model.specs.Instance.{Instance}
use Rattle.tt_choice.specs.Branches.{root_choice}
use Rattle.tt_choice.specs.Choice.{Choice, bare}
use Rattle.certificate.specs.Cert.{Cert}
use Rattle.certificate.specs.declared.node.Node.{Node}
use Rattle.certificate.specs.Lines.{line_of, node_lines, total_lines}
use Rattle.certificate.specs.Trees.{IsTree, Trees, children, first_trees, grow, preorder, trees_after, trees_of}
use Rattle.certificate.proofs.TreeLists.{total_lines-append, trees_of-preorder}
use Rattle.tree_check.specs.declared.fault.NodeFault.{NodeFault}
use Rattle.tree_check.specs.declared.walk.Walk.{Walk}
use Rattle.tree_check.specs.Faults.{IsFirstTreeFault, IsNodeFault}
use Rattle.tree_check.specs.Proofs.{Suits, choices_below}
use Rattle.tree_check.specs.Turns.{IsWalk}
use Rattle.tree_check.proofs.Trees.{below_count}
use Rattle.certificate_reasons.specs.declared.nodes.NodeReason.{NodeReason}
use Rattle.certificate_reasons.specs.Certs.{IsFirstAtFault, IsTreeReason}
use Rattle.certificate_reasons.specs.Nodes.{IsNodeReason}
use Rattle.certificate_reasons.proofs.FirstFaults.{Any, any_first, fault_moved, first_inside, own_fault, past_first, past_leads, past_suits}

-- a reason of a node that begins at a line
abbrev pub HasReason : Instance → ℕ → ℕ → NodeFault → NodeReason → Choice → Node → ℕ → Type 0
HasReason i low at fault r c node line = IsNodeReason i low fault (at - line) c node r

pub record IsReached (i : Instance) (cert : Cert) (at : ℕ) (fault : NodeFault) (k : ℕ) (w : Walk) (line : ℕ) : Type 0 where
  pub left : List Choice
  pub walk : IsWalk i w left
  pub line_is : line ≡ line_of (preorder cert.tree) k
  pub first : IsFirstAtFault Any i cert.low left (trees_of (drop k (preorder cert.tree))) line at fault
  pub leads : (r : NodeReason) → IsFirstAtFault (HasReason i cert.low at fault r) i cert.low left (trees_of (drop k (preorder cert.tree))) line at fault
      → IsTreeReason i cert at fault r

pub reached_first : (i : Instance) (cert : Cert) (at : ℕ) (fault : NodeFault) (w : Walk) → IsTree cert.tree → IsWalk i w (root_choice i ∷ [])
    → IsFirstTreeFault i cert.low (root_choice i ∷ []) cert.tree 3 at fault → IsReached i cert at fault 0 w 3
reached_first i cert at fault w tree walk is =
    let same : trees_of (preorder cert.tree) ≡ cert.tree = trees_of-preorder 1 cert.tree tree.one in
    record {
      left = root_choice i ∷ [];
      walk = walk;
      line_is = refl;
      first = rw same (any_first i cert.low (root_choice i ∷ []) cert.tree 3 at fault is);
      leads = λ r told. rw same at told;
    }

-- the lines of nodes
line_next : (nodes : List Node) (k : ℕ) (node : Node) → k < length nodes → node ≡ slice_index_or nodes k node
    → line_of nodes (k + 1) ≡ line_of nodes k + node_lines node
line_next nodes k node inside here =
    let more = ap total_lines (take_more nodes k node inside ∙ ap (λ (n : Node). take k nodes ++ n ∷ []) (sym here)) in
    omega (arith, more, total_lines-append (take k nodes) (node ∷ []))

pub line_few : (nodes : List Node) (k : ℕ) → line_of nodes k ≤ 3 + total_lines nodes
line_few nodes k =
    let all = ap total_lines (take-append-drop k nodes) in
    omega (arith, all, total_lines-append (take k nodes) (drop k nodes))

-- the trees from a node on begin with it
trees_from : (nodes : List Node) (k : ℕ) (node : Node) → k < length nodes → node ≡ slice_index_or nodes k node
    → trees_of (drop k nodes) ≡ grow node (first_trees (children node) (trees_of (drop (k + 1) nodes))) (trees_after (children node) (trees_of (drop (k + 1) nodes)))
unfolding trees_of
trees_from nodes k node inside here =
    ap trees_of (drop_more nodes k node inside ∙ ap (λ (n : Node). n ∷ drop (k + 1) nodes) (sym here))

-- a choice is left where a node is at fault
some_left : (i : Instance) (low : ℕ) (cs : List Choice) (trees : Trees) (line at : ℕ) (fault : NodeFault) → IsFirstAtFault Any i low cs trees line at fault
    → (c : Choice) × (others : List Choice) × (cs ≡ c ∷ others)
some_left i low [] trees line at fault is = absurd is
some_left i low (c ∷ others) trees line at fault is = (c, others, refl)

module _ (i : Instance) (cert : Cert) (at : ℕ) (fault : NodeFault) (k : ℕ) (node : Node) (w : Walk) (line : ℕ)
    (inside : k < length (preorder cert.tree)) (here : node ≡ slice_index_or (preorder cert.tree) k node) (reached : IsReached i cert at fault k w line) where
  rest : Trees
  rest = trees_of (drop (k + 1) (preorder cert.tree))

  now : Trees
  now = grow node (first_trees (children node) rest) (trees_after (children node) rest)

  choice_left : (c : Choice) × (others : List Choice) × (reached.left ≡ c ∷ others)
  choice_left = some_left i cert.low reached.left (trees_of (drop k (preorder cert.tree))) line at fault reached.first

  first_now : IsFirstAtFault Any i cert.low (choice_left.0 ∷ choice_left.1) now line at fault
  unfolding now rest trees_of
  first_now =
      subst (λ (trees : Trees). IsFirstAtFault Any i cert.low (choice_left.0 ∷ choice_left.1) trees line at fault)
      (trees_from (preorder cert.tree) k node inside here)
      (subst (λ (cs : List Choice). IsFirstAtFault Any i cert.low cs (trees_of (drop k (preorder cert.tree))) line at fault) choice_left.2 reached.first)

  leads_now : (r : NodeReason) → IsFirstAtFault (HasReason i cert.low at fault r) i cert.low (choice_left.0 ∷ choice_left.1) now line at fault
      → IsTreeReason i cert at fault r
  unfolding now rest trees_of
  leads_now r told =
      let there = subst (λ (trees : Trees). IsFirstAtFault (HasReason i cert.low at fault r) i cert.low (choice_left.0 ∷ choice_left.1) trees line at fault)
      (sym (trees_from (preorder cert.tree) k node inside here)) told in
      reached.leads r (subst (λ (cs : List Choice). IsFirstAtFault (HasReason i cert.low at fault r) i cert.low cs (trees_of (drop k (preorder cert.tree))) line at fault)
      (sym choice_left.2) there)

  -- the line behind it is told by itself, where those of all are
  pub reached_line : line + node_lines node ≤ 3 + total_lines (preorder cert.tree)
  reached_line =
      let few = line_few (preorder cert.tree) (k + 1) in
      let next = line_next (preorder cert.tree) k node inside here in
      let own = reached.line_is in
      omega (arith, few, next, own)

  pub reached_next : (c : Choice) × (left : List Choice) × IsWalk i w (c ∷ left)
  reached_next = (choice_left.0, choice_left.1, subst (IsWalk i w) choice_left.2 reached.walk)

  module _ (next : Walk) (went : (c : Choice) (left : List Choice) → IsWalk i w (c ∷ left) → (bare next.choice ≡ c) × IsWalk i next left) where
    there : (bare next.choice ≡ choice_left.0) × IsWalk i next choice_left.1
    there = went choice_left.0 choice_left.1 (subst (IsWalk i w) choice_left.2 reached.walk)

    pub reached_walk : (left : List Choice) × IsWalk i next left
    reached_walk = (choice_left.1, there.1)

    at_choice : IsFirstAtFault Any i cert.low (bare next.choice ∷ choice_left.1) now line at fault
    at_choice = subst (λ (c : Choice). IsFirstAtFault Any i cert.low (c ∷ choice_left.1) now line at fault) (sym there.0) first_now

    leads_there : (r : NodeReason) → IsFirstAtFault (HasReason i cert.low at fault r) i cert.low (bare next.choice ∷ choice_left.1) now line at fault
        → IsTreeReason i cert at fault r
    leads_there r told =
        leads_now r (subst (λ (c : Choice). IsFirstAtFault (HasReason i cert.low at fault r) i cert.low (c ∷ choice_left.1) now line at fault) there.0 told)

    -- the node is at fault where the line is one of its own
    is_fault : at < line + node_lines node → IsNodeFault i cert.low (bare next.choice) node line at fault
    unfolding now
    is_fault own =
        own_fault Any i cert.low at fault (bare next.choice) choice_left.1 node (first_trees (children node) rest) (trees_after (children node) rest) line
        at_choice own

    pub reached_fault : at < line + node_lines node → IsNodeFault i cert.low (bare next.choice) node 0 (at - line) fault
    reached_fault own = fault_moved i cert.low (bare next.choice) node line at fault (is_fault own)

    pub reached_told : (r : NodeReason) → at < line + node_lines node → IsNodeReason i cert.low fault (at - line) (bare next.choice) node r
        → IsTreeReason i cert at fault r
    unfolding now
    reached_told r own is = leads_there r (inl (is_fault own, is))

    pub reached_suits : line + node_lines node ≤ at → Suits i cert.low (bare next.choice) node
    unfolding now
    reached_suits past =
        past_suits Any i cert.low at fault (bare next.choice) choice_left.1 node (first_trees (children node) rest) (trees_after (children node) rest) line
        at_choice past

    pub reached_on : (new : Walk) → line + node_lines node ≤ at
        → ((left : List Choice) → IsWalk i next left → IsWalk i new (choices_below i (bare next.choice) node ++ left))
        → IsReached i cert at fault (k + 1) new (line + node_lines node)
    unfolding now rest trees_of
    reached_on new past below =
        let suits = reached_suits past in
        let count = sym (below_count i cert.low (bare next.choice) node suits) in
        record {
          left = choices_below i (bare next.choice) node ++ choice_left.1;
          walk = below choice_left.1 there.1;
          line_is = ap (λ (l : ℕ). l + node_lines node) reached.line_is ∙ sym (line_next (preorder cert.tree) k node inside here);
          first = past_first Any i cert.low at fault (bare next.choice) choice_left.1 node (children node) rest line at_choice past;
          leads = λ r told.
              leads_there r (past_leads (HasReason i cert.low at fault r) i cert.low at fault (bare next.choice) choice_left.1 node (children node) rest line
              suits count told);
        }

-- behind the last node none is at fault
pub reached_end : (i : Instance) (cert : Cert) (at : ℕ) (fault : NodeFault) (k : ℕ) (w : Walk) (line : ℕ) → length (preorder cert.tree) ≤ k
    → IsReached i cert at fault k w line → ⊥
unfolding trees_of
reached_end i cert at fault k w line past reached =
    let ended = ap trees_of (drop_all k (preorder cert.tree) past) in
    let is = subst (λ (trees : Trees). IsFirstAtFault Any i cert.low reached.left trees line at fault) ended reached.first in
    let inside = first_inside Any i cert.low at fault reached.left (trees_of []) line is in
    omega (arith, inside.0, inside.1)
