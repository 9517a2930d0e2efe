-- Leaves that close what a search left make its tree whole, and right.
use Rattle.std.proofs.Common.{◌≡◌, ℕ, ◌≤◌, List, [], ◌∷◌, ◌++◌, Option, refl, sym, ap, subst, ◌∙◌, arith, length, All, Contains}
use Rattle.std.proofs.lemmas.List.{map-append}
use Rattle.std.proofs.lemmas.List.Elements.{All-append, All-cons, All-contains, All-nil, All-weaker, Contains-append_left, Contains-append_right}
use Rattle.ttp_model.specs.Instance.{Instance}
use Rattle.tt_choice.specs.Choice.{Choice}
use Rattle.certificate.specs.declared.limits.TheConstants.{MOST_BRANCHES_ABOVE}
use Rattle.search_workers.specs.Account.{IsWholeTree}
use Rattle.planner.specs.Begun.{AreLeavesOf}
use Rattle.search_workers.specs.Gathering.{AreShallow, IsLeafPiece}
use Rattle.search_workers.specs.Name.{Name}
use Rattle.search_workers.specs.Pieces.{names_of, AreRight, IsRight, StandsAt}
use Rattle.search_workers.specs.Searching.{task_names, IsSearching}
use Rattle.search_workers.specs.Task.{Task, choice_of, IsTask}
use Rattle.search_workers.specs.Tasks.{tasks_of}
use Rattle.search_workers.specs.declared.aims.Aims.{Aims}
use Rattle.search_workers.specs.declared.found.FoundPlan.{FoundPlan}
use Rattle.search_workers.specs.piece.Piece.{Piece}
use Rattle.search_workers.proofs.Children.{leaf_right}
use Rattle.search_workers.proofs.Leaves.{closed_right, closed_whole}
use Rattle.search_workers.proofs.OneChoice.{stands_alone}
use Rattle.planner.specs.Closing.{AreClosed, AreEnds, ClosesOne, IsEndOf}
use Rattle.planner.proofs.Standing.{right, shallow, stands, whole}

-- ---- leaves that are ends

closes_end : (i : Instance) (tasks : List Task) (top : ℕ) (p : Piece) → ClosesOne i tasks top p → IsEndOf i tasks p
closes_end i tasks top p one = record {
  task = one.task;
  there = one.there;
  name = one.is.name;
  leaf = one.is.leaf;
  is = one.is.node;
  closes = leaf_right i (choice_of i one.task) one.is.leaf one.is.closes;
}

pub closed_ends : (i : Instance) (tasks : List Task) (top : ℕ) (closed : List Piece) (low : ℕ) → AreClosed i tasks top closed low → AreEnds i tasks closed
closed_ends i tasks top closed low c =
    record { names = c.names; each = All-weaker (ClosesOne i tasks top) (IsEndOf i tasks) (closes_end i tasks top) closed c.each }

more_tasks : (i : Instance) (tasks others : List Task) (p : Piece) → ((t : Task) → Contains tasks t → Contains others t) → IsEndOf i tasks p → IsEndOf i others p
more_tasks i tasks others p more one =
    record { task = one.task; there = more one.task one.there; name = one.name; leaf = one.leaf; is = one.is; closes = one.closes }

pub ends_both : (i : Instance) (tasks others : List Task) (ends beside : List Piece) → AreEnds i tasks ends → AreEnds i others beside
    → AreEnds i (tasks ++ others) (ends ++ beside)
ends_both i tasks others ends beside a b = record {
  names = map-append (λ (p : Piece). p.name) ends beside ∙ ap (λ (l : List Name). l ++ names_of beside) a.names
      ∙ ap (λ (l : List Name). task_names tasks ++ l) b.names ∙ sym (map-append (λ (t : Task). t.name) tasks others);
  each = All-append (IsEndOf i (tasks ++ others)) ends beside
      (All-weaker (IsEndOf i tasks) (IsEndOf i (tasks ++ others))
      (λ p. more_tasks i tasks (tasks ++ others) p (λ t there. Contains-append_left tasks others t there)) ends a.each)
      (All-weaker (IsEndOf i others) (IsEndOf i (tasks ++ others))
      (λ p. more_tasks i others (tasks ++ others) p (λ t there. Contains-append_right tasks others t there)) beside b.each);
}

-- the leaves of a certificate are ends of the tasks that begin there
pub leaves_end : (i : Instance) (low : ℕ) (tasks : List Task) (leaves : List Piece) → AreLeavesOf i low tasks leaves → AreEnds i tasks leaves
leaves_end i low [] [] are = record { names = refl; each = All-nil (IsEndOf i []) }
leaves_end i low [] (p ∷ leaves) are = absurd are
leaves_end i low (t ∷ tasks) [] are = absurd are
leaves_end i low (t ∷ tasks) (p ∷ leaves) are =
    let one : IsEndOf i (t ∷ []) p =
    record { task = t; there = (0, omega arith, refl); name = are.0.name; leaf = are.0.leaf; is = are.0.is; closes = are.0.closes } in
    ends_both i (t ∷ []) tasks (p ∷ []) leaves
    (record { names = ap (λ (w : Name). w ∷ []) are.0.name; each = All-cons (IsEndOf i (t ∷ [])) p [] one (All-nil (IsEndOf i (t ∷ []))) })
    (leaves_end i low tasks leaves are.1)

pub are_leaves : (i : Instance) (tasks : List Task) (ends : List Piece) → AreEnds i tasks ends → All IsLeafPiece ends
are_leaves i tasks ends c = All-weaker (IsEndOf i tasks) IsLeafPiece (λ p one. record { leaf = one.leaf; is = one.is }) ends c.each

-- ---- the pieces of a search, and those that close what it left

module _ (i : Instance) (aims : Aims) (made : List Piece) (tasks : List Task) (found : Option FoundPlan) (ends : List Piece)
    (s : IsSearching i aims made tasks found) (c : AreEnds i tasks ends) where
  made_whole : IsWholeTree made (task_names tasks)
  made_whole = subst (λ (ps : List Piece). IsWholeTree ps (task_names tasks)) s.pieces (whole i s.turns tasks s.each s.account)

  made_stands : (t : Task) → Contains tasks t → StandsAt i made t.name (choice_of i t)
  made_stands t there = subst (λ (ps : List Piece). StandsAt i ps t.name (choice_of i t)) s.pieces
      (stands i s.turns tasks s.each s.account t (Contains-append_right (tasks_of s.turns) tasks t there))

  closes_shallow : (p : Piece) → IsEndOf i tasks p → length p.name ≤ MOST_BRANCHES_ABOVE
  closes_shallow p one =
      let own : IsTask i one.task = All-contains (IsTask i) tasks one.task s.open_tasks one.there in
      omega (arith, own.shallow, ap (λ (w : Name). length w) one.name)

  pub ends_shallow : AreShallow (made ++ ends)
  ends_shallow =
      All-append (λ (q : Piece). length q.name ≤ MOST_BRANCHES_ABOVE) made ends
      (subst AreShallow s.pieces (shallow i s.turns tasks s.each s.account))
      (All-weaker (IsEndOf i tasks) (λ (q : Piece). length q.name ≤ MOST_BRANCHES_ABOVE) closes_shallow ends c.each)

  pub ends_whole : IsWholeTree (made ++ ends) []
  ends_whole = closed_whole made ends (subst (IsWholeTree made) (sym c.names) made_whole) (are_leaves i tasks ends c)

  closes_right : (p : Piece) (d : Choice) → Contains ends p → StandsAt i made p.name d → IsRight i d p.node
  closes_right p d there stands =
      let one : IsEndOf i tasks p = All-contains (IsEndOf i tasks) ends p c.each there in
      let here : StandsAt i made one.task.name d = subst (λ (w : Name). StandsAt i made w d) one.name stands in
      let same : choice_of i one.task ≡ d =
      stands_alone i made (task_names tasks) one.task.name (choice_of i one.task) d made_whole (made_stands one.task one.there) here in
      subst (λ (e : Choice). IsRight i e p.node) same (subst (IsRight i (choice_of i one.task)) (sym one.is) one.closes)

  pub ends_right : AreRight i (made ++ ends)
  ends_right =
      closed_right i made ends (are_leaves i tasks ends c) (subst (AreRight i) s.pieces (right i s.turns tasks s.each s.account)) closes_right
