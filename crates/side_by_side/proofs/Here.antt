-- What is found at the next place.
use Rattle.std.proofs.Common.{◌≡◌, ℕ, suc, ◌+◌, ◌<◌, ◌≤◌, List, [], ◌∷◌, ◌++◌, length, drop, reverse, slice_index_or, None, Some, arith, inl, inr, refl, sym, ap, subst, ◌∙◌}
use Rattle.std.proofs.lemmas.List.{drop_more, length-drop, length-reverse, append_assoc, append-nil}
use Rattle.ttp_model.specs.declared.step.Leaf.{Leaf}
use Rattle.ttp_model.specs.Instance.{Instance}
use Rattle.tt_choice.specs.Choice.{Choice, bare}
use Rattle.certificate.specs.declared.branch.Branch.{Branch}
use Rattle.certificate.specs.declared.node.Node.{Node}
use Rattle.certificate.specs.declared.node.Node.TheVariants as node
use Rattle.certificate.specs.Trees.{Trees, none, grow, AreTrees, preorder}
use Rattle.certificate.specs.Cert.{Cert}
use Rattle.tree_check.specs.declared.walk.Walk.{Walk}
use Rattle.tree_check.specs.Proofs.{Suits}
use Rattle.side_by_side.specs.declared.side.Side.{Side}
use Rattle.side_by_side.specs.declared.side.Compared.TheVariants.{Goals, Bounds}
use Rattle.side_by_side.specs.declared.frame.Frame.{Frame}
use Rattle.side_by_side.specs.Joined.{IsFirstGreatest, certificate_at, own_trees, leaf_on_top, branch_on_top, goal_on_top, low_on_top, IsBest, Leads}
use Rattle.side_by_side.specs.Bounds.{IsRight}
use Rattle.side_by_side.specs.Faults.{IsNodeAt}
use Rattle.side_by_side.specs.Found.{IsFound, goal_of, number_at, number_of, side_at, top_of}
use Rattle.side_by_side.specs.Passing.{Group, BeginsWithTree}
use Rattle.side_by_side.specs.Joining.{AreFrames, IsHere}
use Rattle.side_by_side.proofs.Tops.{ProofsOrNone, not_none}
use Rattle.side_by_side.proofs.LeftBehind.{head_and_tail}
use Rattle.side_by_side.proofs.Heads.{top_there, goals_there, bounds_there, found_alike, keeps_found, takes_found, leaf_of_goal, branch_of_low, head_on_top}

-- the node at a place of nodes from there on
pub top_node : (nodes : List Node) (p : ℕ) (n : Node) (rest : List Node) → drop p nodes ≡ n ∷ rest → (p < length nodes) × (slice_index_or nodes p n ≡ n)
top_node nodes p n rest is =
    let inside : p < length nodes = omega (arith, ap length is, length-drop p nodes) in
    (inside, (head_and_tail (slice_index_or nodes p n) n (drop (p + 1) nodes) rest (sym (drop_more nodes p n inside) ∙ is)).0)

-- a tree, and the trees beside it
alone : (n : Node) (below beside : Trees) (more : List Node)
    → preorder (grow n below beside) ++ more ≡ preorder (grow n below none) ++ (preorder beside ++ more)
alone n below beside more =
    ap (λ (ns : List Node). n ∷ ns)
    (append_assoc (preorder below) (preorder beside) more ∙ ap (λ (ns : List Node). ns ++ (preorder beside ++ more)) (sym (append-nil (preorder below))))

-- as many groups as frames
pub same_depth : (certs : List Cert) (gs : List Group) (fs : List Frame) → AreFrames certs gs fs → length gs ≡ length fs
same_depth certs [] [] are = refl
same_depth certs [] (f ∷ fs) are = absurd are
same_depth certs (g ∷ gs) [] are = absurd are
same_depth certs (g ∷ gs) (f ∷ fs) are = ap suc (same_depth certs gs fs are.1)

suits_there : (i : Instance) (c : Choice) (cs : List Choice) (n : Node) (below beside : Trees) → ProofsOrNone i 0 (c ∷ cs) (grow n below beside) → Suits i 0 c n
suits_there i c cs n below beside some = elim some [
  | inl absent ↦ absurd (not_none n below beside absent)
  | inr are ↦ are.0
]

module _ (i : Instance) (certs : List Cert) (walk : Walk) (sides : List Side) (frames : List Frame) (f : Frame) (made : List Node)
    (at : IsHere i certs walk sides frames f made) where
  pub depth_is : length frames ≡ length at.groups
  depth_is = sym (length-reverse frames) ∙ sym (same_depth certs at.groups (reverse frames) at.frames_are)

  pub top_is : (k : ℕ) → k < length certs
      → top_of (preorder (certificate_at certs k).tree) (side_at sides k) (length frames) ≡ head_on_top (at.group.at k)
  top_is k inside =
      subst (λ (n : ℕ). top_of (preorder (certificate_at certs k).tree) (side_at sides k) n ≡ head_on_top (at.group.at k)) (sym depth_is)
      (top_there k at.group at.groups (bare walk.choice) at.choices (side_at sides k) (preorder (own_trees certs k)) at.choices_are (at.sides_are.left k inside))

  -- a node on top of a certificate's trees there is one of the certificate
  node_there : (k : ℕ) (trees : Trees) (n : Node) (below beside : Trees) (more : List Node) → k < length certs → trees ≡ grow n below beside
      → drop (side_at sides k).passed (preorder (own_trees certs k)) ≡ preorder trees ++ more
      → (IsRight i (own_trees certs k) → ProofsOrNone i 0 (bare walk.choice ∷ at.choices) trees)
      → IsNodeAt i certs k (side_at sides k).passed (bare walk.choice) n
  node_there k trees n below beside more inside is left right =
      let first = top_node (preorder (own_trees certs k)) (side_at sides k).passed n ((preorder below ++ preorder beside) ++ more)
      (left ∙ ap (λ (t : Trees). preorder t ++ more) is) in
      record {
        certificate = inside;
        inside = first.0;
        node_is = first.1;
        right = λ whole.
            suits_there i (bare walk.choice) at.choices n below beside
            (subst (λ (t : Trees). ProofsOrNone i 0 (bare walk.choice ∷ at.choices) t) is (right whole));
      }

  right_there : (k : ℕ) → k < length certs → IsRight i (own_trees certs k) → ProofsOrNone i 0 (bare walk.choice ∷ at.choices) (at.group.at k)
  right_there k inside whole =
      subst (λ (xs : List Choice). ProofsOrNone i 0 xs (at.group.at k)) at.choices_are (at.sides_are.right k inside whole).0

  leaf_tree : (trees : Trees) (leaf : Leaf) → leaf_on_top trees ≡ Some leaf → (below : Trees) × (beside : Trees) × (trees ≡ grow (node.Leaf leaf) below beside)
  leaf_tree none leaf is = cc
  leaf_tree (grow (node.Branch branch) below beside) leaf is = cc
  leaf_tree (grow (node.Leaf own) below beside) leaf is =
      let same : own ≡ leaf = cc in
      (below, beside, ap (λ (l : Leaf). grow (node.Leaf l) below beside) same)

  branch_tree : (trees : Trees) (branch : Branch) → branch_on_top trees ≡ Some branch
      → (below : Trees) × (beside : Trees) × (trees ≡ grow (node.Branch branch) below beside)
  branch_tree none branch is = cc
  branch_tree (grow (node.Leaf leaf) below beside) branch is = cc
  branch_tree (grow (node.Branch own) below beside) branch is =
      let same : own ≡ branch = cc in
      (below, beside, ap (λ (b : Branch). grow (node.Branch b) below beside) same)

  pub leaf_there : (k : ℕ) (leaf : Leaf) → k < length certs → leaf_on_top (at.group.at k) ≡ Some leaf
      → IsNodeAt i certs k (side_at sides k).passed (bare walk.choice) (node.Leaf leaf)
  leaf_there k leaf inside own =
      let tree = leaf_tree (at.group.at k) leaf own in
      let left = at.sides_are.left k inside in
      node_there k (at.group.at k) (node.Leaf leaf) tree.0 tree.1 left.0 inside tree.2 left.1.0 (right_there k inside)

  pub branch_there : (k : ℕ) (branch : Branch) → k < length certs → branch_on_top (at.group.at k) ≡ Some branch
      → IsNodeAt i certs k (side_at sides k).passed (bare walk.choice) (node.Branch branch)
  branch_there k branch inside own =
      let tree = branch_tree (at.group.at k) branch own in
      let left = at.sides_are.left k inside in
      node_there k (at.group.at k) (node.Branch branch) tree.0 tree.1 left.0 inside tree.2 left.1.0 (right_there k inside)

  goals_are : (k : ℕ) → k < length certs → number_at certs sides (length frames) Goals k ≡ goal_on_top (at.group.at k)
  goals_are k inside =
      ap (number_of Goals (certificate_at certs k).low) (top_is k inside) ∙ goals_there (certificate_at certs k).low (at.group.at k)

  bounds_are : (k : ℕ) → k < length certs → number_at certs sides (length frames) Bounds k ≡ low_on_top (certificate_at certs k).low (at.group.at k)
  bounds_are k inside =
      ap (number_of Bounds (certificate_at certs k).low) (top_is k inside) ∙ bounds_there (certificate_at certs k).low (at.group.at k)

  -- the best leaf is the one from above,
  pub best_above : IsFound (length certs) (number_at certs sides (length frames) Goals) (goal_of at.group.above) None
      → IsBest (length certs) at.group.above at.group.at at.group.above
  best_above found =
      inl (keeps_found (length certs) at.group.at at.group.above
      (found_alike (length certs) (number_at certs sides (length frames) Goals) (λ k. goal_on_top (at.group.at k)) (goal_of at.group.above) None
      goals_are found))

  -- or one that stands there,
  pub best_own : (k : ℕ) → IsFound (length certs) (number_at certs sides (length frames) Goals) (goal_of at.group.above) (Some k)
      → (leaf : Leaf) × IsBest (length certs) at.group.above at.group.at (Some leaf)
      × IsNodeAt i certs k (side_at sides k).passed (bare walk.choice) (node.Leaf leaf)
  best_own k found =
      let alike = found_alike (length certs) (number_at certs sides (length frames) Goals) (λ j. goal_on_top (at.group.at j)) (goal_of at.group.above)
      (Some k) goals_are found in
      let there = leaf_of_goal (at.group.at k) alike.0 alike.1.own in (
        there.0,
        inr (takes_found (length certs) at.group.at at.group.above k there.0 there.1 alike),
        leaf_there k there.0 alike.1.inside there.1,
      )

  -- no branch leads,
  pub no_branch : IsFound (length certs) (number_at certs sides (length frames) Bounds) None None
      → (k : ℕ) → k < length certs → branch_on_top (at.group.at k) ≡ None
  no_branch found k inside = of_trees (at.group.at k) (bounds_are k inside)
    where
      of_trees : (trees : Trees) → number_at certs sides (length frames) Bounds k ≡ low_on_top (certificate_at certs k).low trees
          → branch_on_top trees ≡ None
      of_trees none is = refl
      of_trees (grow (node.Leaf leaf) below beside) is = refl
      of_trees (grow (node.Branch branch) below beside) is =
          let reached = found k (certificate_at certs k).low inside is in
          let bad : None ≡ Some reached.0 = reached.1 in
          cc

  -- or that of this certificate does
  pub leader_found : (k : ℕ) → IsFound (length certs) (number_at certs sides (length frames) Bounds) None (Some k)
      → (branch : Branch) × (leads : Leads certs at.group.at branch) × (leads.number ≡ k)
  leader_found k found =
      let alike = found_alike (length certs) (number_at certs sides (length frames) Bounds)
      (λ j. low_on_top (certificate_at certs j).low (at.group.at j)) None (Some k) bounds_are found in
      let there = branch_of_low (at.group.at k) (certificate_at certs k).low alike.0 alike.1.own in (
        there.0,
        record {
          number = k;
          own = there.1;
          greatest = subst (λ (n : ℕ). IsFirstGreatest (length certs) (λ j. low_on_top (certificate_at certs j).low (at.group.at j)) k n) there.2 alike.1;
        },
        refl,
      )

  -- a certificate that takes part has a tree there
  pub may_be_passed : (k : ℕ) → k < length certs → length frames ≤ (side_at sides k).level
      → BeginsWithTree (drop (side_at sides k).passed (preorder (own_trees certs k)))
  may_be_passed k inside takes =
      let left = at.sides_are.left k inside in
      of_trees (at.group.at k) left.0 left.1.0
      (subst (λ (xs : List Choice). AreTrees (length xs) (at.group.at k)) at.choices_are (left.1.1.0.shared (omega (arith, takes, depth_is))))
    where
      of_trees : (trees : Trees) (more : List Node) → drop (side_at sides k).passed (preorder (own_trees certs k)) ≡ preorder trees ++ more
          → AreTrees (suc (length at.choices)) trees → BeginsWithTree (drop (side_at sides k).passed (preorder (own_trees certs k)))
      of_trees none more is are = absurd are
      of_trees (grow n below beside) more is are = (
        grow n below none,
        preorder beside ++ more,
        ((are.0, tt), is ∙ alone n below beside more),
      )
