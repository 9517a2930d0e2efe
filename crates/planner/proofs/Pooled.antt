-- What workers made of a search's open tasks stands in front of what was worked before them.
use Rattle.std.proofs.Common.{◌≤◌, List, ◌++◌, Option, sym, ap, ◌∙◌, append_assoc}
use Rattle.std.specs.List.Sorted.{IsPermutation}
use Rattle.std.proofs.lemmas.Grind.{flat_map-append}
use Rattle.std.proofs.lemmas.List.{map-append}
use Rattle.std.proofs.lemmas.List.Elements.{All-append}
use Rattle.std.proofs.lemmas.List.Sorted.{All-permutation, IsPermutation-trans, IsPermutation-append_left, IsPermutation-append_right, IsPermutation-append_comm}
use Rattle.ttp_model.specs.Instance.{Instance}
use Rattle.search_workers.specs.piece.Piece.{Piece}
use Rattle.search_workers.specs.Task.{Task, IsTask}
use Rattle.search_workers.specs.Tasks.{Turn, IsTurn, tasks_of, pieces_of, born, all_born}
use Rattle.search_workers.specs.Gathering.{HasGoal}
use Rattle.search_workers.specs.declared.aims.Aims.{Aims}
use Rattle.search_workers.specs.declared.found.FoundPlan.{FoundPlan}
use Rattle.search_workers.specs.Searching.{aim_of, limit_of, IsSearchingOf}
use Rattle.search_workers.proofs.Goals.{goal_rises}
use Rattle.search_workers.proofs.Searching.{back_all, first_is, interleave, then_is}
use Rattle.planner.proofs.Searched.{lower_goals}

module _ (i : Instance) (aims : Aims) (roots front more : List Task) (made others : List Piece) (tasks : List Task) (old new : Option FoundPlan)
    (s : IsSearchingOf i aims roots made (front ++ more) old) (r : IsSearchingOf i aims more others tasks new) (le : limit_of i new ≤ limit_of i old) where
  abbrev A : List Task
  A = tasks_of s.turns

  abbrev B : List Task
  B = tasks_of r.turns

  abbrev M : List Task
  M = all_born i s.turns

  abbrev N : List Task
  N = all_born i r.turns

  -- what is worked and what is open, in the order of the first search
  in_turn : IsPermutation ((A ++ B) ++ (front ++ tasks)) (roots ++ (M ++ N))
  in_turn =
      let mine = IsPermutation-append_left N (A ++ (front ++ more)) (roots ++ M) s.account in
      let theirs = IsPermutation-append_right (A ++ front) (B ++ tasks) (more ++ N) r.account in
      let same = append_assoc A front (more ++ N) ∙ ap (λ (l : List Task). A ++ l) (sym (append_assoc front more N)) ∙ sym (append_assoc A (front ++ more) N) in
      let last = then_is _ _ _ mine (append_assoc roots M N) in
      IsPermutation-trans _ _ _ (interleave A B front tasks) (IsPermutation-trans _ _ _ (then_is _ _ _ theirs same) last)

  account : IsPermutation (tasks_of (r.turns ++ s.turns) ++ (front ++ tasks)) (roots ++ all_born i (r.turns ++ s.turns))
  account =
      let before = IsPermutation-append_left (front ++ tasks) (B ++ A) (A ++ B) (IsPermutation-append_comm B A) in
      let behind = IsPermutation-append_right roots (M ++ N) (N ++ M) (IsPermutation-append_comm M N) in
      first_is _ _ _ (ap (λ (l : List Task). l ++ (front ++ tasks)) (map-append (λ (x : Turn). x.task) r.turns s.turns))
      (then_is _ _ _ (IsPermutation-trans _ _ _ before (IsPermutation-trans _ _ _ in_turn behind))
      (ap (λ (l : List Task). roots ++ l) (sym (flat_map-append (born i) r.turns s.turns))))

  pub worked_before : IsSearchingOf i aims roots (others ++ made) (front ++ tasks) new
  worked_before = record {
    turns = r.turns ++ s.turns;
    each = All-append (IsTurn i) r.turns s.turns r.each s.each;
    pieces = map-append (λ (x : Turn). x.piece) r.turns s.turns ∙ ap (λ (l : List Piece). l ++ pieces_of s.turns) r.pieces
        ∙ ap (λ (l : List Piece). others ++ l) s.pieces;
    account = account;
    open_tasks = All-append (IsTask i) front tasks
        (back_all (IsTask i) more front (All-permutation (IsTask i) (front ++ more) (more ++ front) (IsPermutation-append_comm front more) s.open_tasks)) r.open_tasks;
    goals = All-append (λ (q : Piece). HasGoal (aim_of i aims new) q.node) others made r.goals
        (lower_goals (aim_of i aims old) (aim_of i aims new) (goal_rises i aims (limit_of i new) (limit_of i old) le) made s.goals);
    found = r.found;
  }
