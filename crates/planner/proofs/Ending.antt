-- What a search comes to, once what it left is closed.
use Rattle.std.proofs.Common.{◌≡◌, ℕ, zero, suc, ◌<◌, ◌≤◌, min, List, [], ◌∷◌, ◌++◌, Option, ◌⊎◌, inl, inr, ⊎_elim, sym, ap, subst, ◌∙◌, arith, length, get_or, All}
use Rattle.std.proofs.lemmas.List.{map-append}
use Rattle.std.proofs.lemmas.List.Elements.{All-append, All-weaker, All-contains, Contains-append_left}
use Rattle.search_workers.specs.declared.found.FoundPlan.{FoundPlan}
use Rattle.ttp_model.specs.declared.step.Leaf.{Leaf}
use Rattle.ttp_model.specs.Instance.{Instance}
use Rattle.ttp_model.specs.Chains.{IsPathBound}
use Rattle.certificate.specs.declared.node.Node.TheVariants as node
use Rattle.search_workers.specs.piece.Piece.{Piece}
use Rattle.search_workers.specs.Name.{Name}
use Rattle.search_workers.specs.Task.{Task}
use Rattle.search_workers.specs.Account.{IsWholeTree}
use Rattle.search_workers.specs.Work.{IsLeftClosed}
use Rattle.search_workers.specs.declared.aims.Aims.{Aims}
use Rattle.search_workers.specs.declared.outcome.Options.{Options}
use Rattle.search_workers.specs.Searching.{aim_of, IsWorkedOut, task_names, IsSearching}
use Rattle.search_workers.specs.Gathering.{HasGoal, HaveGoals, AreShallow}
use Rattle.planner.specs.Searched.{IsSearched, IsClosedLeaf, ReachesGoal}
use Rattle.planner.specs.Closing.{ClosesOne, AreClosed, AreEnds}
use Rattle.search_workers.specs.declared.outcome.Why.{Why}
use Rattle.search_workers.proofs.Searching.{last_there, one_only, weaker_goal}
use Rattle.planner.proofs.Ends.{closed_ends, ends_right, ends_shallow, ends_whole}

pub end_low : (low limit : ℕ) (closed : List Piece) → (low ≡ limit) ⊎ ((low < limit) × ReachesGoal low closed) → low ≤ limit
end_low low limit closed (inl e) = omega (arith, e)
end_low low limit closed (inr h) = omega (arith, h.0)

closes_leaf : (i : Instance) (limit low : ℕ) (tasks : List Task) (p : Piece) → ClosesOne i tasks limit p → HasGoal low p.node → IsClosedLeaf i limit low p
closes_leaf i limit low tasks p one goal =
    let above : low ≤ one.is.leaf.goal = subst (HasGoal low) one.is.node goal in
    record { leaf = one.is.leaf; is = one.is.node; above = above; path = λ bound is. omega (arith, one.is.least bound is) }

all_leaves : (i : Instance) (limit low : ℕ) (tasks : List Task) (closed : List Piece) → All (ClosesOne i tasks limit) closed → HaveGoals low closed → All (IsClosedLeaf i limit low) closed
all_leaves i limit low tasks closed each goals = λ j d lt. closes_leaf i limit low tasks (get_or closed j d) (each j d lt) (goals j d lt)

-- ---- the pieces of a search, and those that close what it left

module _ (i : Instance) (aims : Aims) (made : List Piece) (tasks : List Task) (found : Option FoundPlan) (low : ℕ) (closed : List Piece)
    (s : IsSearching i aims made tasks found) (c : AreClosed i tasks (aim_of i aims found) closed low) where
  abbrev limit : ℕ
  limit = aim_of i aims found

  are_ends : AreEnds i tasks closed
  are_ends = closed_ends i tasks limit closed low c

  pub end_shallow : AreShallow (made ++ closed)
  end_shallow = ends_shallow i aims made tasks found closed s are_ends

  pub end_whole : IsWholeTree (made ++ closed) []
  end_whole = ends_whole i aims made tasks found closed s are_ends

  pub end_goals : HaveGoals low (made ++ closed)
  end_goals =
      All-append (λ (q : Piece). HasGoal low q.node) made closed
      (All-weaker (λ (q : Piece). HasGoal limit q.node) (λ (q : Piece). HasGoal low q.node) (λ q. weaker_goal limit low (end_low low limit closed c.least) q.node) made s.goals)
      c.goals

  pub ends : (options : Options) (why : Why) → length made ≤ options.budget → IsWorkedOut options.budget made why
      → IsSearched i options aims why found made closed low
  ends options why within cause = record {
    whole = end_whole;
    right = ends_right i aims made tasks found closed s are_ends;
    found = s.found;
    goals = s.goals;
    leaves = all_leaves i limit low tasks closed c.each c.goals;
    most = end_low low limit closed c.least;
    within = within;
    cause = cause;
  }

-- ---- one task more is closed

-- the least goal so far is no lower than that of any leaf has to be
low_enough : (i : Instance) (done : List Task) (top : ℕ) (closed : List Piece) (low : ℕ) → ReachesGoal low closed → All (ClosesOne i done top) closed → (bound : ℕ) → IsPathBound i bound → min top bound ≤ low
low_enough i done top closed low r each bound path =
    let one = All-contains (ClosesOne i done top) closed r.piece each r.there in
    let same : node.Leaf one.is.leaf ≡ node.Leaf r.leaf = sym one.is.node ∙ r.is in
    let leaf : one.is.leaf ≡ r.leaf = cc in
    let goal : one.is.leaf.goal ≡ r.leaf.goal = ap (λ (l : Leaf). l.goal) leaf in
    omega (arith, one.is.least bound path, goal, r.goal)

-- what is closed at the least goal so far is closed at the top
pub closed_lower : (i : Instance) (done : List Task) (t : Task) (top : ℕ) (closed : List Piece) (low : ℕ) (p : Piece) → AreClosed i done top closed low → IsLeftClosed i t low p → IsLeftClosed i t top p
closed_lower i done t top closed low p c is = record {
  leaf = is.leaf;
  node = is.node;
  name = is.name;
  closes = is.closes;
  most = ⊎_elim (λ (e : low ≡ top). omega (arith, is.most, e)) (λ (r : (low < top) × ReachesGoal low closed). omega (arith, is.most, r.0)) c.least;
  least = λ bound path.
      ⊎_elim (λ (e : low ≡ top). omega (arith, is.least bound path, e))
      (λ (r : (low < top) × ReachesGoal low closed). omega (arith, is.least bound path, low_enough i done top closed low r.1 c.each bound path)) c.least;
}

pub closes_more : (i : Instance) (done : List Task) (t : Task) (top : ℕ) (closed : List Piece) (low lower : ℕ) (p : Piece)
    → AreClosed i done top closed low → IsLeftClosed i t top p
    → ((leaf : Leaf) → p.node ≡ node.Leaf leaf → lower ≡ min low leaf.goal)
    → AreClosed i (done ++ t ∷ []) top (closed ++ p ∷ []) lower
closes_more i done t top closed low lower p c is lowers =
    let lowered : lower ≡ min low is.leaf.goal = lowers is.leaf is.node in
    let le : lower ≤ low = omega (arith, lowered) in
    let own : HasGoal lower p.node = subst (HasGoal lower) (sym is.node) (omega (arith, lowered)) in
    record {
      names = map-append (λ (q : Piece). q.name) closed (p ∷ []) ∙ ap (λ (l : List Name). l ++ p.name ∷ []) c.names
          ∙ ap (λ (w : Name). task_names done ++ w ∷ []) is.name ∙ sym (map-append (λ (x : Task). x.name) done (t ∷ []));
      each = All-append (ClosesOne i (done ++ t ∷ []) top) closed (p ∷ [])
          (All-weaker (ClosesOne i done top) (ClosesOne i (done ++ t ∷ []) top)
          (λ q one. record { task = one.task; there = Contains-append_left done (t ∷ []) one.task one.there; is = one.is }) closed c.each)
          (one_only (ClosesOne i (done ++ t ∷ []) top) p (record { task = t; there = last_there done t; is = is }));
      goals = All-append (λ (q : Piece). HasGoal lower q.node) closed (p ∷ [])
          (All-weaker (λ (q : Piece). HasGoal low q.node) (λ (q : Piece). HasGoal lower q.node) (λ q. weaker_goal low lower le q.node) closed c.goals)
          (one_only (λ (q : Piece). HasGoal lower q.node) p own);
      least = more_least (le_cases low is.leaf.goal) c.least;
    }
  where
    own_goal : (lower : ℕ) → is.leaf.goal ≡ lower → ReachesGoal lower (closed ++ p ∷ [])
    own_goal lower e = record { piece = p; there = last_there closed p; leaf = is.leaf; is = is.node; goal = e }

    wider_goal : (low : ℕ) → ReachesGoal low closed → ReachesGoal low (closed ++ p ∷ [])
    wider_goal low r = record { piece = r.piece; there = Contains-append_left closed (p ∷ []) r.piece r.there; leaf = r.leaf; is = r.is; goal = r.goal }

    le_cases : (a b : ℕ) → (a ≤ b) ⊎ (b < a)
    le_cases zero b = inl (omega arith)
    le_cases (suc a) zero = inr (omega arith)
    le_cases (suc a) (suc b) = elim (le_cases a b) [ inl h ↦ inl (omega (arith, h)) | inr h ↦ inr (omega (arith, h)) ]

    more_least : (low ≤ is.leaf.goal) ⊎ (is.leaf.goal < low) → (low ≡ top) ⊎ ((low < top) × ReachesGoal low closed)
        → (lower ≡ top) ⊎ ((lower < top) × ReachesGoal lower (closed ++ p ∷ []))
    more_least (inl h) (inl e) = inl (omega (arith, lowers is.leaf is.node, h, e))
    more_least (inl h) (inr r) =
        let same : low ≡ lower = omega (arith, lowers is.leaf is.node, h) in
        inr (omega (arith, same, r.0), subst (λ (l : ℕ). ReachesGoal l (closed ++ p ∷ [])) same (wider_goal low r.1))
    more_least (inr h) (inl e) =
        inr (omega (arith, lowers is.leaf is.node, h, e), own_goal lower (omega (arith, lowers is.leaf is.node, h)))
    more_least (inr h) (inr r) =
        inr (omega (arith, lowers is.leaf is.node, h, r.0), own_goal lower (omega (arith, lowers is.leaf is.node, h)))
