-- What workers of a pool made and left, once all have ended, accounts for the whole tree.
use Rattle.std.proofs.Common.{◌≡◌, ℕ, ◌≤◌, List, [], ◌∷◌, ◌++◌, inl, inr, refl, sym, ap, subst, ◌∙◌, arith, append_assoc, All}
use Rattle.std.specs.List.Sorted.{IsPermutation}
use Rattle.std.proofs.lemmas.List.Elements.{All-head, All-tail, All-cons, All-nil, All-contains}
use Rattle.std.proofs.lemmas.List.Sorted.{IsPermutation-sym, IsPermutation-trans, IsPermutation-cons, IsPermutation-append_left, IsPermutation-append_right, IsPermutation-append_comm}
use Rattle.ttp_model.specs.Instance.{Instance}
use Rattle.ttp_model.specs.Rules.{IsInstance}
use Rattle.certificate.specs.declared.node.Node.{Node}
use Rattle.certificate.specs.declared.node.Node.TheVariants as node
use Rattle.search_workers.specs.piece.Piece.{Piece}
use Rattle.search_workers.specs.Task.{Task, IsTask}
use Rattle.incumbent.specs.declared.word.Incumbent.{Incumbent}
use Rattle.incumbent.specs.Watch.{first_value, seen, offers, IsLeast}
use Rattle.search_workers.specs.Hand.{all_pushed, all_taken}
use Rattle.search_workers.specs.declared.aims.Aims.{Aims}
use Rattle.search_workers.specs.Goals.{goals_of, goals_at, IsReached}
use Rattle.search_workers.specs.Tasks.{tasks_of, all_born}
use Rattle.planner.specs.declared.crew.Crew.{Crew}
use Rattle.search_workers.specs.Searching.{aim_of, limit_of, IsSearchingOf}
use Rattle.search_workers.proofs.Goals.{goal_rises}
use Rattle.search_workers.specs.Gathering.{HasGoal, HaveGoals}
use Rattle.planner.specs.Crew.{HasLeft, HaveEnded}
use Rattle.search_workers.proofs.Searching.{first_is, then_is}
use Rattle.search_workers.proofs.Searching.{none_below}

-- one task more is drained
pub one_drained : {X : Type 0} (t : X) (drained new old begun : List X) → IsPermutation new (t ∷ old) → IsPermutation old (drained ++ begun) → IsPermutation new ((drained ++ t ∷ []) ++ begun)
one_drained t drained new old begun h k =
    IsPermutation-trans _ _ _ h (IsPermutation-trans _ _ _ (IsPermutation-cons t old (drained ++ begun) k)
    (IsPermutation-append_left begun (t ∷ drained) (drained ++ t ∷ []) (IsPermutation-append_comm (t ∷ []) drained)))

-- the tasks worked, and those that are held, kept back or left in deques, are what was pushed and what was kept back
gathered : {X : Type 0} (pushes takes worked in_hand kept left drained : List X) → IsPermutation left (in_hand ++ kept) → IsPermutation takes (worked ++ in_hand) → IsPermutation pushes (drained ++ takes)
    → IsPermutation (worked ++ (left ++ drained)) (pushes ++ kept)
gathered pushes takes worked in_hand kept left drained h k balance =
    let one = IsPermutation-append_right worked _ _ (IsPermutation-append_left drained left (in_hand ++ kept) h) in
    let two : worked ++ ((in_hand ++ kept) ++ drained) ≡ (worked ++ in_hand) ++ (kept ++ drained) =
    ap (λ l. worked ++ l) (append_assoc in_hand kept drained) ∙ sym (append_assoc worked in_hand (kept ++ drained)) in
    let three = IsPermutation-append_right (worked ++ in_hand) _ _ (IsPermutation-append_comm kept drained) in
    let four = sym (append_assoc (worked ++ in_hand) drained kept) in
    let five = IsPermutation-append_left kept _ _ (IsPermutation-append_comm (worked ++ in_hand) drained) in
    let six = IsPermutation-append_left kept _ _ (IsPermutation-append_right drained _ _ (IsPermutation-sym takes (worked ++ in_hand) k)) in
    let seven = IsPermutation-append_left kept _ _ (IsPermutation-sym pushes (drained ++ takes) balance) in
    IsPermutation-trans _ _ _ (then_is _ _ _ one two) (IsPermutation-trans _ _ _ (then_is _ _ _ three four) (IsPermutation-trans _ _ _ five (IsPermutation-trans _ _ _ six seven)))

-- goals that are all at least a limit
one_goal : (limit : ℕ) (Q : ℕ → Type 0) → ((x : ℕ) → Q x → limit ≤ x) → (piece : Piece) (pieces : List Piece) (n : Node) → piece.node ≡ n → All Q (goals_at n ++ goals_of pieces) → (All Q (goals_of pieces) → HaveGoals limit pieces)
    → HaveGoals limit (piece ∷ pieces)
one_goal limit Q above piece pieces (node.Branch b) e all rest =
    All-cons (λ (p : Piece). HasGoal limit p.node) piece pieces (subst (HasGoal limit) (sym e) tt) (rest all)
one_goal limit Q above piece pieces (node.Leaf leaf) e all rest =
    All-cons (λ (p : Piece). HasGoal limit p.node) piece pieces (subst (HasGoal limit) (sym e) (above leaf.goal (All-head Q leaf.goal (goals_of pieces) all)))
    (rest (All-tail Q leaf.goal (goals_of pieces) all))

have_goals : (limit : ℕ) (Q : ℕ → Type 0) → ((x : ℕ) → Q x → limit ≤ x) → (pieces : List Piece) → All Q (goals_of pieces) → HaveGoals limit pieces
have_goals limit Q above [] all = All-nil (λ (p : Piece). HasGoal limit p.node)
have_goals limit Q above (piece ∷ pieces) all = one_goal limit Q above piece pieces piece.node refl all (λ rest. have_goals limit Q above pieces rest)

module _ {J : Type 0} (i : Instance) (aims : Aims) (word : Incumbent) (crew : Crew J) (w : IsInstance i) (given : List Task) (ended : HaveEnded i aims word given crew) (least : ℕ) (is : IsLeast (first_value word ∷ offers crew.watch) least) (below : All (λ x. least ≤ x) (seen crew.watch)) (all : List Task)
    (each : All (IsTask i) all) (left : HasLeft crew.hands.items crew.tasks.items all) where
  limit_below : limit_of i crew.best ≤ least
  limit_below =
      let P : ℕ → Type 0 = λ value. limit_of i crew.best ≤ value in
      let first : P (first_value word) = subst P (sym ended.top) (none_below i crew.best w ended.gathers.found) in
      All-contains P (first_value word ∷ offers crew.watch) least (All-cons P (first_value word) (offers crew.watch) first ended.gathers.best) is.0

  value_above : (x : ℕ) (h : IsReached i aims crew.watch x) → limit_of i crew.best ≤ h.value
  value_above x h = elim h.known [
    | inl e ↦ let le = All-contains (λ y. least ≤ y) (seen crew.watch) h.value below e in omega (arith, le, limit_below)
    | inr e ↦ All-contains (λ y. limit_of i crew.best ≤ y) (offers crew.watch) h.value ended.gathers.best e
  ]

  reached_above : (x : ℕ) → IsReached i aims crew.watch x → aim_of i aims crew.best ≤ x
  reached_above x h = omega (arith, goal_rises i aims (limit_of i crew.best) h.value (value_above x h), h.at_most)

  pub ends_searching : IsSearchingOf i aims given crew.pieces.items all crew.best
  ends_searching =
      let g = ended.gathers in
      let takes = then_is _ _ _ g.takes (ap (λ (l : List Task). l ++ (tasks_of g.turns ++ g.in_hand)) ended.takes) in
      let tree = IsPermutation-trans _ _ _ g.pushes (IsPermutation-append_left (all_born i g.turns) _ _ ended.pushes) in
      let worked = gathered (all_pushed crew.hands.items) (all_taken crew.hands.items) (tasks_of g.turns) g.in_hand g.kept_back crew.tasks.items left.drained g.rest takes left.balance in
      record {
        turns = g.turns;
        each = g.each;
        pieces = g.pieces;
        account = first_is _ _ _ (ap (λ (l : List Task). tasks_of g.turns ++ l) left.then) (IsPermutation-trans _ _ _ worked tree);
        open_tasks = each;
        goals = have_goals (aim_of i aims crew.best) (IsReached i aims crew.watch) reached_above crew.pieces.items g.reached;
        found = g.found;
      }
