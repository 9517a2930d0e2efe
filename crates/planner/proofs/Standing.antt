-- Turns that account for the tasks of a tree make a tree of names, and each of their tasks stands at its name.
use Rattle.std.proofs.Common.{◌≡◌, ℕ, zero, suc, ◌+◌, ◌<◌, ◌≤◌, List, [], ◌∷◌, ◌++◌, ◌⊎◌, inl, inr, refl, sym, ap, subst, ◌∙◌, arith, map, length, length-append, All, Contains}
use Rattle.std.specs.List.{range_with_len}
use Rattle.std.specs.List.Sorted.{IsPermutation}
use Rattle.std.proofs.lemmas.List.{map-append}
use Rattle.std.proofs.lemmas.List.Elements.{All-head, All-tail, All-contains, Contains-append_left, All-map}
use Rattle.std.proofs.lemmas.List.Sorted.{IsPermutation-map, Contains-permutation}
use Rattle.ttp_model.specs.Instance.{Instance}
use Rattle.tt_choice.specs.Choice.{Choice}
use Rattle.certificate.specs.declared.limits.TheConstants.{MOST_BRANCHES_ABOVE}
use Rattle.certificate.specs.Trees.{children}
use Rattle.search_workers.specs.piece.Piece.{Piece}
use Rattle.search_workers.specs.Name.{Name, root_name, child_name}
use Rattle.search_workers.specs.Task.{Task, choice_of, root_task}
use Rattle.search_workers.specs.Pieces.{names_of, names_below, all_below, choice_below, IsRight, StandsAt, at_root, at_child, AreRight}
use Rattle.search_workers.specs.Account.{IsWholeTree}
use Rattle.search_workers.proofs.OneChoice.{stands_alone}
use Rattle.search_workers.proofs.Children.{choice_of_child}
use Rattle.search_workers.specs.Tasks.{Turn, IsTurn, tasks_of, pieces_of, born, child_task, all_born}
use Rattle.search_workers.specs.Gathering.{AreShallow}
use Rattle.search_workers.specs.Searching.{task_names}
use Rattle.search_workers.proofs.Has.{Has, has_map, has_from_map, has_from_flat_map, in_range, has_from_contains, contains_from_has}

abbrev name_of : Task → Name
name_of t = t.name

-- ---- names

names_born : (i : Instance) (turn : Turn) (ks : List ℕ) → map name_of (map (child_task i turn) ks) ≡ map (child_name turn.task.name) ks
names_born i turn [] = refl
names_born i turn (k ∷ ks) = ap (λ (l : List Name). child_name turn.task.name k ∷ l) (names_born i turn ks)

born_below : (i : Instance) (turn : Turn) → IsTurn i turn → map name_of (born i turn) ≡ names_below turn.piece
born_below i turn is =
    names_born i turn (range_with_len 0 (children turn.piece.node))
    ∙ ap (λ (w : Name). map (child_name w) (range_with_len 0 (children turn.piece.node))) (sym is.name)

all_names_born : (i : Instance) (turns : List Turn) → All (IsTurn i) turns → map name_of (all_born i turns) ≡ all_below (pieces_of turns)
all_names_born i [] each = refl
all_names_born i (turn ∷ turns) each =
    map-append name_of (born i turn) (all_born i turns)
    ∙ ap (λ (l : List Name). l ++ map name_of (all_born i turns)) (born_below i turn (All-head (IsTurn i) turn turns each))
    ∙ ap (λ (l : List Name). names_below turn.piece ++ l) (all_names_born i turns (All-tail (IsTurn i) turn turns each))

all_names : (i : Instance) (turns : List Turn) → All (IsTurn i) turns → map name_of (tasks_of turns) ≡ names_of (pieces_of turns)
all_names i [] each = refl
all_names i (turn ∷ turns) each =
    let first = sym (All-head (IsTurn i) turn turns each).name in
    let rest = all_names i turns (All-tail (IsTurn i) turn turns each) in
    λ j. first j ∷ rest j

module _ (i : Instance) (turns : List Turn) (tasks : List Task) (each : All (IsTurn i) turns) (account : IsPermutation (tasks_of turns ++ tasks) (root_task ∷ all_born i turns)) where
  pub whole : IsWholeTree (pieces_of turns) (task_names tasks)
  whole =
      let left = map-append name_of (tasks_of turns) tasks ∙ ap (λ (l : List Name). l ++ task_names tasks) (all_names i turns each) in
      let right = ap (λ (l : List Name). root_name ∷ l) (all_names_born i turns each) in
      subst (λ (l : List Name). IsPermutation l (root_name ∷ all_below (pieces_of turns))) left
      (subst (λ (l : List Name). IsPermutation (map name_of (tasks_of turns ++ tasks)) l) right (IsPermutation-map name_of (tasks_of turns ++ tasks) (root_task ∷ all_born i turns) account))

  -- the choice of a child's task stands at its name, where its parent's does
  below : (turn : Turn) (t : Task) (k : ℕ) → Has turns turn → k < children turn.piece.node → child_task i turn k ≡ t → StandsAt i (pieces_of turns) turn.task.name (choice_of i turn.task) → StandsAt i (pieces_of turns) t.name (choice_of i t)
  below turn t k there lt is stands =
      let own : IsTurn i turn = All-contains (IsTurn i) turns turn each (contains_from_has turns turn there) in
      let piece : Contains (pieces_of turns) turn.piece = contains_from_has (pieces_of turns) turn.piece (has_map (λ (x : Turn). x.piece) turns turn there) in
      let here : StandsAt i (pieces_of turns) turn.piece.name (choice_of i turn.task) = subst (λ (w : Name). StandsAt i (pieces_of turns) w (choice_of i turn.task)) (sym own.name) stands in
      let at : StandsAt i (pieces_of turns) (child_name turn.piece.name k) (choice_below i (choice_of i turn.task) turn.piece.node k) = at_child turn.piece (choice_of i turn.task) k piece here lt in
      let named : StandsAt i (pieces_of turns) (child_name turn.task.name k) (choice_below i (choice_of i turn.task) turn.piece.node k) =
      subst (λ (w : Name). StandsAt i (pieces_of turns) (child_name w k) (choice_below i (choice_of i turn.task) turn.piece.node k)) own.name at in
      let chosen : StandsAt i (pieces_of turns) (child_name turn.task.name k) (choice_of i (child_task i turn k)) =
      subst (StandsAt i (pieces_of turns) (child_name turn.task.name k)) (sym (choice_of_child i turn.task turn.piece.node k)) named in
      subst (λ (u : Task). StandsAt i (pieces_of turns) u.name (choice_of i u)) is chosen

  -- a task is the root, or the child of a turn's task
  record IsChild (t : Task) : Type 0 where
    pub turn : Turn
    pub there : Has turns turn
    pub index : ℕ
    pub inside : index < children turn.piece.node
    pub is : child_task i turn index ≡ t

  root_or_child : (t : Task) → Contains (tasks_of turns ++ tasks) t → (root_task ≡ t) ⊎ IsChild t
  root_or_child t there =
      let from = has_from_contains (root_task ∷ all_born i turns) t (Contains-permutation (tasks_of turns ++ tasks) (root_task ∷ all_born i turns) t account there) in
      elim from [
        | inl same ↦ inl same
        | inr later ↦
            let one = has_from_flat_map (born i) turns t later in
            let kid = has_from_map (child_task i one.from) (range_with_len 0 (children one.from.piece.node)) t one.is in
            let bounds = in_range 0 (children one.from.piece.node) kid.from kid.there in
            inr (record { turn = one.from; there = one.there; index = kid.from; inside = omega (arith, bounds.1); is = kid.is })
      ]

  own_task : (turn : Turn) → Has turns turn → Contains (tasks_of turns ++ tasks) turn.task
  own_task turn there = Contains-append_left (tasks_of turns) tasks turn.task (contains_from_has (tasks_of turns) turn.task (has_map (λ (x : Turn). x.task) turns turn there))

  longer : (t : Task) (c : IsChild t) → length t.name ≡ length c.turn.task.name + 1
  longer t c = ap (λ (u : Task). length u.name) (sym c.is) ∙ length-append c.turn.task.name (c.index ∷ [])

  stands_within : (n : ℕ) (t : Task) → length t.name ≤ n → Contains (tasks_of turns ++ tasks) t → StandsAt i (pieces_of turns) t.name (choice_of i t)
  stands_within zero t short there = elim (root_or_child t there) [
    | inl same ↦ subst (λ (u : Task). StandsAt i (pieces_of turns) u.name (choice_of i u)) same at_root
    | inr c ↦ absurd (omega (arith, short, longer t c))
  ]
  stands_within (suc n) t short there = elim (root_or_child t there) [
    | inl same ↦ subst (λ (u : Task). StandsAt i (pieces_of turns) u.name (choice_of i u)) same at_root
    | inr c ↦ below c.turn t c.index c.there c.inside c.is (stands_within n c.turn.task (omega (arith, short, longer t c)) (own_task c.turn c.there))
  ]

  pub stands : (t : Task) → Contains (tasks_of turns ++ tasks) t → StandsAt i (pieces_of turns) t.name (choice_of i t)
  stands t there = stands_within (length t.name) t (omega arith) there

  pub right : AreRight i (pieces_of turns)
  right piece c there at =
      let from = has_from_map (λ (x : Turn). x.piece) turns piece (has_from_contains (pieces_of turns) piece there) in
      let turn = from.from in
      let own : IsTurn i turn = All-contains (IsTurn i) turns turn each (contains_from_has turns turn from.there) in
      let here = stands turn.task (own_task turn from.there) in
      let named : StandsAt i (pieces_of turns) turn.task.name c = subst (λ (w : Name). StandsAt i (pieces_of turns) w c) (sym (ap (λ (p : Piece). p.name) from.is) ∙ own.name) at in
      let same : choice_of i turn.task ≡ c = stands_alone i (pieces_of turns) (task_names tasks) turn.task.name (choice_of i turn.task) c whole here named in
      subst (λ (p : Piece). IsRight i c p.node) from.is (subst (λ (d : Choice). IsRight i d turn.piece.node) same own.right)

  pub shallow : AreShallow (pieces_of turns)
  shallow =
      let P : Piece → Type 0 = λ q. length q.name ≤ MOST_BRANCHES_ABOVE in
      All-map P (λ (x : Turn). x.piece) turns (λ k d lt. let own = each k d lt in omega (arith, own.of.shallow, ap (λ (w : Name). length w) own.name))
