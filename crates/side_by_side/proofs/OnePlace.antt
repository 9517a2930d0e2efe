-- One place more: what is known once a leaf stands there, or a branch leads on, and that fewer nodes are left.
use Rattle.std.proofs.Common.{◌≡◌, ℕ, suc, ◌+◌, ◌-◌, ◌<◌, ◌≤◌, ◌↔◌, List, [], ◌∷◌, ◌++◌, length, take, drop, Option, None, Some, Bool, true, false, cond, IsTrue, arith, inl, inr, refl, sym, ap, subst, ◌∙◌}
use Rattle.std.proofs.lemmas.Bool.{cases_Bool}
use Rattle.std.proofs.lemmas.List.{length-append, append-nil, drop_all, take_all}
use Rattle.ttp_model.specs.declared.step.Kind.TheVariants.{Place}
use Rattle.ttp_model.specs.declared.step.Leaf.{Leaf}
use Rattle.ttp_model.specs.Instance.{Instance}
use Rattle.tt_choice.specs.Choice.{Choice, IsChoice, bare}
use Rattle.tt_choice.specs.Branches.{IsBranch, child_choices}
use Rattle.tt_choice.proofs.Trail.{IsChoice-keeping}
use Rattle.certificate.specs.Branch.{branch_of}
use Rattle.certificate.specs.declared.branch.Branch.{Branch}
use Rattle.certificate.specs.declared.node.Node.{Node}
use Rattle.certificate.specs.declared.node.Node.TheVariants as node
use Rattle.certificate.specs.Trees.{Trees, none, grow, AreTrees, preorder}
use Rattle.certificate.specs.Cert.{Cert}
use Rattle.tree_check.specs.declared.walk.Walk.{Walk}
use Rattle.tree_check.specs.declared.fault.CertFault.{CertFault}
use Rattle.tree_check.specs.declared.fault.CertFault.TheVariants as cert
use Rattle.tree_check.specs.Turns.{IsWalk}
use Rattle.tree_check.specs.Seen.{TellsBranch, TellsNode}
use Rattle.side_by_side.specs.declared.side.Side.{Side}
use Rattle.side_by_side.specs.declared.frame.NodePlace.{NodePlace}
use Rattle.side_by_side.specs.declared.frame.Frame.{Frame}
use Rattle.side_by_side.specs.Joined.{branch_on_top, below_top, certificate_at, goal_on_top, own_trees, IsBest, IsUnder, Leads, ReachesGoal}
use Rattle.side_by_side.specs.Standing.{StandsAs}
use Rattle.side_by_side.specs.Found.{side_at, top_of}
use Rattle.side_by_side.specs.Left.{left_at, left_of}
use Rattle.side_by_side.specs.Passing.{HasThere, AreHeld, IsHeldAt, ArePassed, GoesOn, all_choices, flag_at}
use Rattle.side_by_side.specs.Faults.{IsNodeAt, TellsOwn}
use Rattle.side_by_side.specs.Joining.{HasBranch, HasLeaf, IsSpot, IsJoining, IsHere}
use Rattle.side_by_side.proofs.Stands.{stands_closes}
use Rattle.side_by_side.proofs.Tops.{best_takes}
use Rattle.side_by_side.proofs.Heads.{goes_there, there_goes}
use Rattle.side_by_side.proofs.Gone.{gone_on}
use Rattle.side_by_side.proofs.Fewer.{one_there, some_there, gone_fewer, fewer_left}
use Rattle.side_by_side.proofs.Here.{branch_there, depth_is, top_is}
use Rattle.side_by_side.proofs.Stages.{leaf_placed, branch_placed}

module _ (i : Instance) (certs : List Cert) (walk : Walk) (sides : List Side) (frames : List Frame) (f : Frame) (made : List Node)
    (at : IsHere i certs walk sides frames f made) where
  pub here_choice : IsChoice i (bare walk.choice)
  here_choice = IsChoice-keeping i walk.choice [] at.choice

  -- who goes on below a branch, if one leads
  abbrev pub Follow : Option Branch → List Bool → Type 0
  Follow leads flags =
      (k : ℕ) → k < length certs → IsTrue (flag_at flags k)
      ↔ GoesOn leads (top_of (preorder (certificate_at certs k).tree) (side_at sides k) (length frames))

  module _ (new : List Side) (flags : List Bool) (passed : ArePassed certs (length frames) flags sides new) where
    passed_there : ArePassed certs (length at.groups) flags sides new
    passed_there = subst (λ (n : ℕ). ArePassed certs n flags sides new) (depth_is i certs walk sides frames f made at) passed

    one_fewer : (branch : Branch) (k : ℕ) → (IsTrue (flag_at flags k) → branch_on_top (at.group.at k) ≡ Some branch) → k < length certs
        → left_at certs new k + one_there (at.group.at k) ≤ left_at certs sides k
    one_fewer branch k same inside =
        let left = at.sides_are.left k inside in
        let nodes = preorder (own_trees certs k) in
        let there : HasThere (length at.groups) (side_at sides k).level (suc (length at.choices)) (at.group.at k) =
        subst (λ (xs : List Choice). HasThere (length at.groups) (side_at sides k).level (length xs) (at.group.at k)) at.choices_are left.1.1.0 in
        gone_fewer (length at.groups) nodes (side_at sides k) (side_at new k) (length at.choices) branch.children (at.group.at k) (flag_at flags k) left.0
        (gone_on (length at.groups) nodes (side_at sides k) (side_at new k) (length at.choices) branch.children branch left.0 refl (at.group.at k)
        (flag_at flags k) same (passed_there.each k inside) left.1.0 there)
        left.1.0

    fewer_behind : (branch : Branch) → ((k : ℕ) → k < length certs → IsTrue (flag_at flags k) → branch_on_top (at.group.at k) ≡ Some branch)
        → left_of certs new (length certs) < left_of certs sides (length certs)
    fewer_behind branch same =
        let own = at.groups_are.0 in
        let trees : AreTrees (suc (length at.choices)) (at.group.at own.number) =
        subst (λ (xs : List Choice). AreTrees (length xs) (at.group.at own.number)) at.choices_are own.someone in
        let some = some_there (length at.choices) (at.group.at own.number) trees in
        fewer_left certs sides new (length certs) own.number
        (λ j inside. let le = one_fewer branch j (same j inside) inside in omega (arith, le))
        own.inside
        (let le = one_fewer branch own.number (same own.number own.inside) own.inside in omega (arith, le, some))

    -- ---- a leaf stands

    pub leaf_step : (leaf here : Leaf) → IsBest (length certs) at.group.above at.group.at (Some leaf)
        → ((k : ℕ) → k < length certs → branch_on_top (at.group.at k) ≡ None) → StandsAs i (bare walk.choice) leaf here → Follow None flags
        → IsJoining i certs walk new (frames ++ record { due = f.due - 1; above = f.above } ∷ []) (made ++ node.Leaf here ∷ [])
    leaf_step leaf here best no_branch stands each =
        leaf_placed i certs walk sides frames f made at walk new flags passed_there here at.walk_is
        (record { leaf = leaf; best = best; no_branch = no_branch; stands = stands })
        (stands_closes i (bare walk.choice) leaf here stands) (λ k inside on. (each k inside).0 on)

    pub leaf_fewer : Follow None flags → left_of certs new (length certs) < left_of certs sides (length certs)
    leaf_fewer each = fewer_behind (branch_of Place 0) (λ k inside on. absurd ((each k inside).0 on))

    -- ---- a branch leads on

    followers : (branch : Branch) → Follow (Some branch) flags → (k : ℕ) → k < length certs → IsTrue (flag_at flags k)
        → branch_on_top (at.group.at k) ≡ Some branch
    followers branch each k inside on =
        goes_there branch (at.group.at k) (subst (GoesOn (Some branch)) (top_is i certs walk sides frames f made at k inside) ((each k inside).0 on))

    under_it : (branch : Branch) → Follow (Some branch) flags → (k : ℕ) → k < length certs
        → IsUnder branch (at.group.at k) (cond (flag_at flags k) (below_top (at.group.at k)) none)
    under_it branch each k inside = elim (cases_Bool (flag_at flags k)) [
      | inl on ↦ inl (followers branch each k inside on, ap (λ (b : Bool). cond b (below_top (at.group.at k)) none) on)
      | inr off ↦
          inr (
            λ same.
                let on : flag_at flags k ≡ true = (each k inside).1
                (subst (GoesOn (Some branch)) (sym (top_is i certs walk sides frames f made at k inside)) (there_goes branch (at.group.at k) same)) in
                let bad : true ≡ false = sym on ∙ off in
                cc,
            ap (λ (b : Bool). cond b (below_top (at.group.at k)) none) off,
          )
    ]

    pub branch_step : (branch : Branch) (best : Option Leaf) (spot : Option NodePlace) (next : Walk) → Leads certs at.group.at branch
        → IsBest (length certs) at.group.above at.group.at best → IsBranch i (bare walk.choice) branch.kind branch.children
        → IsHeldAt i (bare walk.choice) best → IsSpot certs spot best
        → IsWalk i next (child_choices i (bare walk.choice) branch.kind ++ (at.choices ++ all_choices at.groups)) → Follow (Some branch) flags
        → IsJoining i certs next new
        ((frames ++ record { due = f.due - 1; above = f.above } ∷ []) ++ record { due = branch.children; above = spot } ∷ [])
        (made ++ node.Branch branch ∷ [])
    branch_step branch best spot next leads is suits held is_spot walk_is each =
        branch_placed i certs walk sides frames f made at next new flags passed_there branch best spot
        (record { leads = leads; is_best = is; suits = suits; under = under_it branch each }) here_choice held is_spot walk_is (followers branch each)

    pub branch_fewer : (branch : Branch) → Follow (Some branch) flags → left_of certs new (length certs) < left_of certs sides (length certs)
    branch_fewer branch each = fewer_behind branch (followers branch each)

    -- ---- what both leave

    pub leaf_frames : length (frames ++ record { due = f.due - 1; above = f.above } ∷ []) ≤ length frames + 2
    leaf_frames = omega (arith, length-append frames (record { due = f.due - 1; above = f.above } ∷ []))

  -- the branch that leads stands on top of its certificate
  pub leader_node : (branch : Branch) (leads : Leads certs at.group.at branch) (k : ℕ) → leads.number ≡ k
      → IsNodeAt i certs k (side_at sides k).passed (bare walk.choice) (node.Branch branch)
  leader_node branch leads k same =
      subst (λ (n : ℕ). IsNodeAt i certs n (side_at sides n).passed (bare walk.choice) (node.Branch branch)) same
      (branch_there i certs walk sides frames f made at leads.number branch leads.greatest.inside leads.own)

  pub some_due : 0 < f.due
  some_due = omega (arith, at.frame_is.due, ap length at.choices_are)

module _ (i : Instance) (certs : List Cert) (k place : ℕ) (c : Choice) where
  pub has_branch : (branch : Branch) → IsNodeAt i certs k place c (node.Branch branch) → HasBranch certs (record { certificate = k; node = place }) branch
  has_branch branch there = record { certificate = there.certificate; inside = there.inside; is = there.node_is }

  pub has_leaf : (leaf : Leaf) → IsNodeAt i certs k place c (node.Leaf leaf) → HasLeaf certs (record { certificate = k; node = place }) leaf
  has_leaf leaf there = record { certificate = there.certificate; inside = there.inside; is = there.node_is }

  pub tells_leaf : (leaf : Leaf) (fault : CertFault) → IsNodeAt i certs k place c (node.Leaf leaf) → TellsNode i 0 c (node.Leaf leaf) 0 fault
      → TellsOwn i certs k place c fault
  tells_leaf leaf fault there tells = record { node = node.Leaf leaf; there = there; tells = tells }

  pub tells_branch : (branch : Branch) (fault : CertFault) → IsNodeAt i certs k place c (node.Branch branch) → TellsBranch i c branch 0 fault
      → TellsOwn i certs k place c fault
  tells_branch branch fault there tells = record { node = node.Branch branch; there = there; tells = of_node fault tells }
    where
      of_node : (fault : CertFault) → TellsBranch i c branch 0 fault → TellsNode i 0 c (node.Branch branch) 0 fault
      of_node cert.LowTooGreat tells = absurd tells
      of_node (cert.At line fault) tells = λ first is. (first, tells.0 ∙ is, (refl, tells.1))
      of_node cert.OutOfMemory tells = tt

-- ---- as it is written

pub joining_alike : (i : Instance) (certs : List Cert) (walk : Walk) (sides sides2 : List Side) (frames frames2 : List Frame) (made made2 : List Node)
    → sides2 ≡ sides → frames2 ≡ frames → made2 ≡ made → IsJoining i certs walk sides frames made → IsJoining i certs walk sides2 frames2 made2
joining_alike i certs walk sides sides2 frames frames2 made made2 same_sides same_frames same_made joining =
    subst (λ (ss : List Side). IsJoining i certs walk ss frames2 made2) (sym same_sides)
    (subst (λ (fs : List Frame). IsJoining i certs walk sides fs made2) (sym same_frames)
    (subst (λ (ns : List Node). IsJoining i certs walk sides frames ns) (sym same_made) joining))

-- all sides are written back
pub written_back : (len : ℕ) (old new : List Side) → length new ≡ length old → len ≡ length old → take len (new ++ drop (length new) old) ≡ new
written_back len old new count is =
    let none_left : drop (length new) old ≡ [] = drop_all (length new) old (omega (arith, count)) in
    ap (λ (ss : List Side). take len (new ++ ss)) none_left ∙ (ap (take len) (append-nil new) ∙ take_all len new (omega (arith, count, is)))

pub two_frames : (frames : List Frame) (a b : Frame) → length ((frames ++ a ∷ []) ++ b ∷ []) ≤ length frames + 2
two_frames frames a b = omega (arith, length-append frames (a ∷ []), length-append (frames ++ a ∷ []) (b ∷ []))

-- ---- what goes down

-- the leaf from above closes a choice around the one at the place
pub held_here : (i : Instance) (certs : List Cert) (walk : Walk) (sides : List Side) (frames : List Frame) (f : Frame) (made : List Node)
    → (at : IsHere i certs walk sides frames f made) → IsHeldAt i (bare walk.choice) at.group.above
held_here i certs walk sides frames f made at =
    let held : AreHeld i at.group.above (bare walk.choice ∷ at.choices) = subst (AreHeld i at.group.above) at.choices_are at.groups_are.0.held in
    held.0.1

-- something stands at each place
pub somebody : (i : Instance) (certs : List Cert) (walk : Walk) (sides : List Side) (frames : List Frame) (f : Frame) (made : List Node)
    → (at : IsHere i certs walk sides frames f made) → IsBest (length certs) at.group.above at.group.at None
    → ((k : ℕ) → k < length certs → branch_on_top (at.group.at k) ≡ None) → ⊥
somebody i certs walk sides frames f made at best no_branch =
    let own = at.groups_are.0 in
    let trees : AreTrees (suc (length at.choices)) (at.group.at own.number) =
    subst (λ (xs : List Choice). AreTrees (length xs) (at.group.at own.number)) at.choices_are own.someone in
    of_top (at.group.at own.number) trees (no_branch own.number own.inside)
    (λ goal is. best_takes (length certs) at.group.above at.group.at None own.number goal best own.inside is)
  where
    of_top : (t : Trees) → AreTrees (suc (length at.choices)) t → branch_on_top t ≡ None → ((goal : ℕ) → goal_on_top t ≡ Some goal → ReachesGoal None goal) → ⊥
    of_top none are absent reaches = are
    of_top (grow (node.Leaf leaf) below beside) are absent reaches =
        let reached = reaches leaf.goal refl in
        let bad : None ≡ Some reached.0 = reached.1 in
        cc
    of_top (grow (node.Branch branch) below beside) are absent reaches = let bad : Some branch ≡ None = absent in cc
