-- The search goes on by one node of the certificate.
use Rattle.std.proofs.Common.{◌≡◌, ℕ, ◌<◌, ◌≤◌, List, [], ◌∷◌, ◌++◌, Option, Bool, true, false, cond, map, filter, reverse, arith, inl, inr}
use Rattle.std.proofs.Common.{refl, sym, ap, subst, ◌∙◌}
use Rattle.std.proofs.lemmas.Grind.{common_steps}
use Rattle.std.proofs.lemmas.List.{append-nil}
use Rattle.ttp_model.specs.declared.step.Leaf.{Leaf}
use Rattle.ttp_model.specs.Instance.{Instance}
use Rattle.tt_choice.specs.Choice.{Choice}
use Rattle.tt_choice.specs.Branches.{IsBranch}
use Rattle.certificate.specs.declared.branch.Branch.{Branch}
use Rattle.certificate.specs.declared.node.Node.{Node}
use Rattle.certificate.specs.declared.node.Node.TheVariants as node
use Rattle.tree_check.specs.Proofs.{choices_below, ClosesFrom, Suits}
use Rattle.search_workers.specs.Gathering.{HasGoal}
use Rattle.search_workers.specs.piece.Piece.{Piece}
use Rattle.search_workers.specs.Pieces.{IsRight}
use Rattle.search_workers.specs.Task.{Task, choice_of}
use Rattle.search_workers.specs.Tasks.{Turn, born}
use Rattle.search_workers.specs.declared.aims.Aims.{Aims}
use Rattle.search_workers.specs.declared.found.FoundPlan.{FoundPlan}
use Rattle.search_workers.specs.Searching.{IsSearching}
use Rattle.planner.specs.declared.replay.Replay.{Replay}
use Rattle.planner.specs.Begun.{nodes_of, is_open, outline, stays}
use Rattle.planner.specs.Replay.{ProveAll, Stands, IsReplay, TakesTurn, Splits, StaysClosed, StaysOpen, EndsAt, Takes, GoesThrough}
use Rattle.planner.proofs.ChildrenStand.{kids_choices, no_kids}
use Rattle.planner.proofs.Nodes.{first_suits, others_prove}
use Rattle.planner.proofs.Account.{turned, left_open, next_choices, choices_in_front}
use Rattle.planner.proofs.OpenLeaves.{leaves_more, nodes_more, outlines_more}

module _ (i : Instance) (aims : Aims) (best : Option FoundPlan) (low : ℕ) (nodes : List Node) (mid : Replay) (t : Task) (one : Node)
    (s : Stands i aims best low mid.aim mid.pieces.items mid.tasks.items mid.leaves.items (mid.next.items ++ t ∷ []) (one ∷ nodes)) where
  all : ProveAll i low (choice_of i t ∷ map (choice_of i) (reverse mid.next.items)) (one ∷ nodes)
  all = subst (λ (cs : List Choice). ProveAll i low cs (one ∷ nodes)) (next_choices i mid.next.items t) s.proofs

  pub suits_here : Suits i low (choice_of i t) one
  suits_here = first_suits i low (choice_of i t) (map (choice_of i) (reverse mid.next.items)) one nodes all

  behind : ProveAll i low (choices_below i (choice_of i t) one ++ map (choice_of i) (reverse mid.next.items)) nodes
  behind = others_prove i low (choice_of i t) (map (choice_of i) (reverse mid.next.items)) one nodes all

  -- by a turn
  pub turn_goes : (new : Replay) (turn : Turn) → turn.task ≡ t → TakesTurn i mid new turn
      → map (choice_of i) (born i turn) ≡ choices_below i (choice_of i t) one → HasGoal mid.aim turn.piece.node → IsReplay i aims best low new nodes
  turn_goes new turn is takes kids goal =
      let before = subst (λ (x : Task). IsSearching i aims mid.pieces.items (mid.tasks.items ++ (mid.next.items ++ x ∷ [])) best) (sym is) s.searching in
      let after = turned i aims best mid.pieces.items mid.tasks.items mid.next.items turn before takes.right takes.children
      (subst (λ (n : ℕ). HasGoal n turn.piece.node) s.aim_is goal) in
      let choices = ap (λ (l : List Task). map (choice_of i) (reverse l)) takes.next ∙ choices_in_front i mid.next.items (born i turn)
      ∙ ap (λ (cs : List Choice). cs ++ map (choice_of i) (reverse mid.next.items)) kids in
      record {
        searching = rw (takes.pieces, takes.tasks, takes.next) after;
        aim_is = takes.aim ∙ s.aim_is;
        leaves_are = rw (takes.tasks, takes.leaves) s.leaves_are;
        proofs = subst (λ (cs : List Choice). ProveAll i low cs nodes) (sym choices) behind;
      }

  -- by a leaf that is open again
  pub open_goes : (new : Replay) (leaf : Leaf) → one ≡ node.Leaf leaf → StaysOpen mid new t leaf → IsReplay i aims best low new nodes
  open_goes new leaf is x =
      let suits : ClosesFrom i low (choice_of i t) leaf = subst (Suits i low (choice_of i t)) is suits_here in
      let choices = ap (λ (l : List Task). map (choice_of i) (reverse l)) x.next in
      let rest : ProveAll i low (map (choice_of i) (reverse mid.next.items)) nodes
      = subst (λ (n : Node). ProveAll i low (choices_below i (choice_of i t) n ++ map (choice_of i) (reverse mid.next.items)) nodes) is behind in
      record {
        searching = rw (x.pieces, x.tasks, x.next) (left_open i aims best mid.pieces.items mid.tasks.items mid.next.items t s.searching);
        aim_is = x.aim ∙ s.aim_is;
        leaves_are = rw (x.tasks, x.leaves) (leaves_more i low mid.tasks.items mid.leaves.items t x.piece s.leaves_are
            (record { name = x.name; leaf = leaf; is = x.node_is; closes = suits.closes; above = suits.goal }));
        proofs = subst (λ (cs : List Choice). ProveAll i low cs nodes) (sym choices) rest;
      }

-- ---- what the search has of the certificate

fails_test : (test : Node → Bool) (n : Node) → test n ≡ false → filter test (n ∷ []) ≡ []
fails_test test n fails = ap (λ (b : Bool). cond b (n ∷ []) []) fails

passes_test : (test : Node → Bool) (n : Node) → test n ≡ true → filter test (n ∷ []) ≡ n ∷ []
passes_test test n holds = ap (λ (b : Bool). cond b (n ∷ []) []) holds

not_open : (aim : ℕ) (leaf : Leaf) → aim ≤ leaf.goal → is_open aim (node.Leaf leaf) ≡ false
not_open aim leaf le = grind (arith, common_steps, le)

is_open_leaf : (aim : ℕ) (leaf : Leaf) → leaf.goal < aim → is_open aim (node.Leaf leaf) ≡ true
is_open_leaf aim leaf lt = grind (arith, common_steps, lt)

leaf_stays : (aim : ℕ) (leaf : Leaf) → aim ≤ leaf.goal → stays aim (node.Leaf leaf) ≡ true
leaf_stays aim leaf le = grind (arith, common_steps, le)

leaf_goes : (aim : ℕ) (leaf : Leaf) → leaf.goal < aim → stays aim (node.Leaf leaf) ≡ false
leaf_goes aim leaf lt = grind (arith, common_steps, lt)

module _ (i : Instance) (old mid new : Replay) (t : Task) (popped : old.next.items ≡ mid.next.items ++ t ∷ []) (pieces : mid.pieces.items ≡ old.pieces.items)
    (tasks : mid.tasks.items ≡ old.tasks.items) (leaves : mid.leaves.items ≡ old.leaves.items) (aim : mid.aim ≡ old.aim) where
  -- the search as it stood, with the task that was taken out
  pub stood : (aims : Aims) (best : Option FoundPlan) (low : ℕ) (nodes : List Node) → IsReplay i aims best low old nodes
      → Stands i aims best low mid.aim mid.pieces.items mid.tasks.items mid.leaves.items (mid.next.items ++ t ∷ []) nodes
  stood aims best low nodes s = record {
    searching = rw (pieces, tasks, ← popped) s.searching;
    aim_is = aim ∙ s.aim_is;
    leaves_are = rw (tasks, leaves) s.leaves_are;
    proofs = rw (← popped) s.proofs;
  }

  piece_more : (turn : Turn) → TakesTurn i mid new turn
      → map outline (nodes_of new.pieces.items) ≡ map outline (nodes_of old.pieces.items) ++ outline turn.piece.node ∷ []
  piece_more turn takes =
      outlines_more old.pieces.items new.pieces.items turn.piece (takes.pieces ∙ ap (λ (l : List Piece). l ++ turn.piece ∷ []) pieces)

  no_leaf_more : (turn : Turn) → TakesTurn i mid new turn → nodes_of new.leaves.items ≡ nodes_of old.leaves.items ++ []
  no_leaf_more turn takes = ap nodes_of (takes.leaves ∙ leaves) ∙ sym (append-nil (nodes_of old.leaves.items))

  -- by a branch
  branch_goes : (b : Branch) → Splits i mid new t b → GoesThrough i old new (node.Branch b ∷ [])
  branch_goes b x = record {
    replay = λ aims best low nodes s.
        let st = stood aims best low (node.Branch b ∷ nodes) s in
        let suits : IsBranch i (choice_of i t) b.kind b.children = suits_here i aims best low nodes mid t (node.Branch b) st in
        let own = subst (λ (u : Task). IsBranch i (choice_of i u) b.kind b.children) (sym x.is) suits in
        let kids = kids_choices i b x.turn own x.node_is ∙ ap (λ (u : Task). choices_below i (choice_of i u) (node.Branch b)) x.is in
        turn_goes i aims best low nodes mid t (node.Branch b) st new x.turn x.is x.takes kids (subst (HasGoal mid.aim) (sym x.node_is) tt);
    kept = piece_more x.turn x.takes ∙ ap (λ (n : Node). map outline (nodes_of old.pieces.items) ++ outline n ∷ []) x.node_is;
    open_leaves = no_leaf_more x.turn x.takes;
    aim = x.takes.aim ∙ aim;
  }

  -- by a leaf that stays closed
  closed_goes : (leaf : Leaf) → mid.aim ≤ leaf.goal → StaysClosed i mid new t leaf → GoesThrough i old new (node.Leaf leaf ∷ [])
  closed_goes leaf far x =
      let past : old.aim ≤ leaf.goal = omega (arith, far, aim) in
      let same : outline x.turn.piece.node ≡ outline (node.Leaf leaf)
      = ap outline x.node_is ∙ ap (λ (g : ℕ). node.Leaf (record { goal = g; steps = [] })) x.goal in
      record {
        replay = λ aims best low nodes s.
            turn_goes i aims best low nodes mid t (node.Leaf leaf) (stood aims best low (node.Leaf leaf ∷ nodes) s) new x.turn x.is x.takes
            (ap (map (choice_of i)) (no_kids i x.turn x.sharp x.node_is)) (subst (HasGoal mid.aim) (sym x.node_is) (omega (arith, far, x.goal)));
        kept = piece_more x.turn x.takes ∙ ap (λ (n : Node). map outline (nodes_of old.pieces.items) ++ n ∷ []) same
            ∙ ap (λ (l : List Node). map outline (nodes_of old.pieces.items) ++ map outline l)
            (sym (passes_test (stays old.aim) (node.Leaf leaf) (leaf_stays old.aim leaf past)));
        open_leaves = no_leaf_more x.turn x.takes
            ∙ ap (λ (l : List Node). nodes_of old.leaves.items ++ l) (sym (fails_test (is_open old.aim) (node.Leaf leaf) (not_open old.aim leaf past)));
        aim = x.takes.aim ∙ aim;
      }

  -- by one that is open again
  open_leaf_goes : (leaf : Leaf) → leaf.goal < mid.aim → StaysOpen mid new t leaf → GoesThrough i old new (node.Leaf leaf ∷ [])
  open_leaf_goes leaf near x =
      let below : leaf.goal < old.aim = omega (arith, near, aim) in
      let more : new.leaves.items ≡ old.leaves.items ++ x.piece ∷ [] = x.leaves ∙ ap (λ (l : List Piece). l ++ x.piece ∷ []) leaves in
      let own = map outline (nodes_of old.pieces.items) in
      record {
        replay = λ aims best low nodes s.
            open_goes i aims best low nodes mid t (node.Leaf leaf) (stood aims best low (node.Leaf leaf ∷ nodes) s) new leaf refl x;
        kept = ap (λ (l : List Piece). map outline (nodes_of l)) (x.pieces ∙ pieces) ∙ sym (append-nil own)
            ∙ ap (λ (l : List Node). own ++ map outline l) (sym (fails_test (stays old.aim) (node.Leaf leaf) (leaf_goes old.aim leaf below)));
        open_leaves = nodes_more old.leaves.items new.leaves.items x.piece (node.Leaf leaf) more x.node_is
            ∙ ap (λ (l : List Node). nodes_of old.leaves.items ++ l) (sym (passes_test (is_open old.aim) (node.Leaf leaf) (is_open_leaf old.aim leaf below)));
        aim = x.aim ∙ aim;
      }

  ends_through : (leaf : Leaf) → EndsAt i mid new t leaf → GoesThrough i old new (node.Leaf leaf ∷ [])
  ends_through leaf ends = elim ends [
    | inl open_again ↦ open_leaf_goes leaf open_again.0 open_again.1
    | inr closed ↦ closed_goes leaf closed.0 closed.1
  ]

  pub goes : (one : Node) → Takes i mid new t one → GoesThrough i old new (one ∷ [])
  goes (node.Branch branch) takes = branch_goes branch takes
  goes (node.Leaf leaf) takes = ends_through leaf takes

-- a node that suits a choice is right for it
pub right_of : (i : Instance) (low : ℕ) (c : Choice) (one : Node) → Suits i low c one → IsRight i c one
right_of i low c (node.Branch branch) suits = suits
right_of i low c (node.Leaf leaf) suits = suits.closes
