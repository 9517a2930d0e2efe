-- What a node of the certificate makes of the search.
use Rattle.std.proofs.Common.{◌≡◌, List, [], ◌∷◌, ◌++◌, Option, All, reverse, map, arith, refl, sym, ap, subst, ◌∙◌, append_assoc}
use Rattle.std.proofs.lemmas.List.{reverse-append, reverse-reverse, map-append}
use Rattle.std.proofs.lemmas.List.Sorted.{IsPermutation-append_right, IsPermutation-append_comm, IsPermutation-reverse}
use Rattle.ttp_model.specs.Instance.{Instance}
use Rattle.search_workers.specs.Gathering.{HasGoal}
use Rattle.search_workers.specs.piece.Piece.{Piece}
use Rattle.search_workers.specs.Task.{Task, IsTask, choice_of, root_task}
use Rattle.search_workers.specs.Tasks.{Turn, IsTurn, born}
use Rattle.search_workers.specs.declared.aims.Aims.{Aims}
use Rattle.search_workers.specs.declared.found.FoundPlan.{FoundPlan}
use Rattle.search_workers.specs.Searching.{aim_of, IsSearching}
use Rattle.search_workers.proofs.Searching.{in_any_order, then_is, works}

module _ (i : Instance) (aims : Aims) (best : Option FoundPlan) (made : List Piece) (tasks front : List Task) where
  -- the task that comes next became a piece, whose children come next in its place
  pub turned : (turn : Turn) → IsSearching i aims made (tasks ++ (front ++ turn.task ∷ [])) best → IsTurn i turn → All (IsTask i) (born i turn)
      → HasGoal (aim_of i aims best) turn.piece.node → IsSearching i aims (made ++ turn.piece ∷ []) (tasks ++ (front ++ reverse (born i turn))) best
  turned turn s is each goal =
      let kids = born i turn in
      let before = subst (λ (l : List Task). IsSearching i aims made l best) (sym (append_assoc tasks front (turn.task ∷ []))) s in
      let after = works i aims (root_task ∷ []) made (tasks ++ front) turn best best kids before is refl each (omega arith) goal s.found in
      let moved = then_is _ _ _ (IsPermutation-append_right (tasks ++ front) kids (reverse kids) (IsPermutation-reverse kids))
      (append_assoc tasks front (reverse kids)) in
      in_any_order i aims (root_task ∷ []) (made ++ turn.piece ∷ []) ((tasks ++ front) ++ kids) (tasks ++ (front ++ reverse kids)) best moved after

  -- it is left open
  pub left_open : (t : Task) → IsSearching i aims made (tasks ++ (front ++ t ∷ [])) best → IsSearching i aims made ((tasks ++ t ∷ []) ++ front) best
  left_open t s =
      let moved = then_is _ _ _ (IsPermutation-append_right tasks (front ++ t ∷ []) (t ∷ front) (IsPermutation-append_comm front (t ∷ [])))
      (sym (append_assoc tasks (t ∷ []) front)) in
      in_any_order i aims (root_task ∷ []) made (tasks ++ (front ++ t ∷ [])) ((tasks ++ t ∷ []) ++ front) best moved s

-- the choices of the tasks that come next, the last first
pub next_choices : (i : Instance) (front : List Task) (t : Task)
    → map (choice_of i) (reverse (front ++ t ∷ [])) ≡ choice_of i t ∷ map (choice_of i) (reverse front)
next_choices i front t = ap (map (choice_of i)) (reverse-append front (t ∷ []))

pub choices_in_front : (i : Instance) (front kids : List Task)
    → map (choice_of i) (reverse (front ++ reverse kids)) ≡ map (choice_of i) kids ++ map (choice_of i) (reverse front)
choices_in_front i front kids =
    ap (map (choice_of i)) (reverse-append front (reverse kids) ∙ ap (λ (l : List Task). l ++ reverse front) (reverse-reverse kids))
    ∙ map-append (choice_of i) kids (reverse front)
