-- The tasks of a branch's children are those that it gives, and each is one of the instance where the branch isn't too deep.
use Rattle.std.proofs.Common.{◌≡◌, ℕ, ◌+◌, ◌<◌, ◌≤◌, List, [], ◌∷◌, map, length, length-append, slice_index_or, All, ◌⊎◌, inl, inr, arith, refl}
use Rattle.std.proofs.Common.{sym, ap, subst, ◌∙◌}
use Rattle.std.specs.List.{range_with_len}
use Rattle.std.proofs.lemmas.Simd.{map-map}
use Rattle.ttp_model.specs.declared.step.Leaf.{Leaf}
use Rattle.ttp_model.specs.Instance.{Instance}
use Rattle.ttp_model.specs.Rules.{IsInstance}
use Rattle.tt_choice.specs.declared.decision.Decision.{Decision}
use Rattle.tt_choice.specs.Choice.{Choice}
use Rattle.tt_choice.specs.Branches.{IsBranch, root_choice, children, child}
use Rattle.tt_choice.specs.Decisions.{AreOpenDecisions, decision_of}
use Rattle.tt_choice.specs.Sizes.{size_left, Halves}
use Rattle.tt_choice.proofs.Decisions.{open-more, decision_is_open}
use Rattle.tt_choice.proofs.Smaller.{size_left-child_le}
use Rattle.certificate.specs.declared.branch.Branch.{Branch}
use Rattle.certificate.specs.declared.node.Node.{Node}
use Rattle.certificate.specs.declared.node.Node.TheVariants as node
use Rattle.certificate.specs.Limits.{most_branches_above}
use Rattle.certificate.specs.Trees.{children as node_children}
use Rattle.tree_check.specs.Proofs.{choices_below}
use Rattle.search_workers.proofs.Splits.{count, name_at, decisions_at, choice_at, children_are_tasks}
use Rattle.search_workers.specs.Name.{Name, child_name}
use Rattle.search_workers.specs.Task.{Task, IsTask, AreChildren, choice_of}
use Rattle.search_workers.specs.Tasks.{Turn, born, child_task}
use Rattle.search_workers.proofs.ChildTasks.{with_one}
use Rattle.search_workers.proofs.Chosen.{choice_after_child, task_choice}

-- the task with a number's name and decisions
abbrev numbered : (ℕ → Name) → (ℕ → List Decision) → ℕ → Task
numbered n ds k = record { name = n k; decisions = ds k }

-- tasks with these names and decisions
of_parts : (kids : List Task) (ks : List ℕ) (n : ℕ → Name) (ds : ℕ → List Decision) → map (λ (t : Task). t.name) kids ≡ map n ks
    → map (λ (t : Task). t.decisions) kids ≡ map ds ks → kids ≡ map (numbered n ds) ks
of_parts [] [] n ds e f = refl
of_parts [] (k ∷ ks) n ds e f = absurd cc
of_parts (t ∷ ts) [] n ds e f = absurd cc
of_parts (t ∷ ts) (k ∷ ks) n ds e f =
    let name : t.name ≡ n k = cc in
    let decisions : t.decisions ≡ ds k = cc in
    let names : map (λ (t : Task). t.name) ts ≡ map n ks = cc in
    let others : map (λ (t : Task). t.decisions) ts ≡ map ds ks = cc in
    let rest = of_parts ts ks n ds names others in
    let same : t ≡ numbered n ds k = λ j. record { name = name j; decisions = decisions j } in
    λ j. same j ∷ rest j

module _ (i : Instance) (t : Task) (b : Branch) (kids : List Task) (are : AreChildren i t b.kind kids) (is : IsBranch i (choice_of i t) b.kind b.children) where
  abbrev c : Choice
  c = choice_of i t

  many : length kids ≡ b.children
  many = count i t b.kind kids are ∙ sym is.just

  pub kids_born : (turn : Turn) → turn.task ≡ t → turn.piece.node ≡ node.Branch b → kids ≡ born i turn
  kids_born turn task at =
      let below = λ (n : ℕ). with_one t.decisions (decision_of i c b.kind n) in
      let all = are.decisions ∙ ap (λ n. map (with_one t.decisions) (map (decision_of i c b.kind) (range_with_len 0 n))) (sym is.just) in
      let decisions = all ∙ map-map (with_one t.decisions) (decision_of i c b.kind) (range_with_len 0 b.children) in
      let names = are.names ∙ ap (λ n. map (child_name t.name) (range_with_len 0 n)) many in
      let made = of_parts kids (range_with_len 0 b.children) (child_name t.name) below names decisions in
      let own : Turn = record { task = t; piece = record { name = turn.piece.name; node = node.Branch b } } in
      let same : own ≡ turn = λ j. record { task = sym task j; piece = record { name = turn.piece.name; node = sym at j } } in
      made ∙ ap (born i) same

  module _ (w : IsInstance i) (stands : IsTask i t) where
    no_larger_at : (k : ℕ) (d : Task) → k < length kids → size_left i (choice_of i (slice_index_or kids k d)) ≤ size_left i c
    no_larger_at k d inside =
        let le = size_left-child_le i c b.kind k (task_choice i t w stands) is.is_open in
        subst (λ (x : Choice). size_left i x ≤ size_left i c) (sym (choice_at i t b.kind kids are k d inside)) le

    longer_at : (k : ℕ) (d : Task) → k < length kids → length (slice_index_or kids k d).name ≡ length t.name + 1
    longer_at k d inside = ap length (name_at i t b.kind kids are k d inside) ∙ length-append t.name (k ∷ [])

    -- below a task that isn't deep
    roomy_kids : length t.name + 1 + size_left i c ≤ most_branches_above → All (IsTask i) kids
    roomy_kids low k d inside = record {
      decisions =
          let inside_children : k < children i c b.kind = omega (arith, inside, many, is.just) in
          let own = decision_is_open i c b.kind k is.is_open inside_children in
          subst (AreOpenDecisions i (root_choice i)) (sym (decisions_at i t b.kind kids are k d inside))
          (open-more i (root_choice i) t.decisions (decision_of i c b.kind k) stands.decisions own);
      shallow = omega (arith, no_larger_at k d inside, longer_at k d inside, low);
    }

    -- or below a branch that halves
    pub kids_are_tasks : Halves c b.kind ⊎ (length t.name + 1 + size_left i c ≤ most_branches_above) → All (IsTask i) kids
    kids_are_tasks fits = elim fits [
      | inl half ↦ children_are_tasks i t b.kind kids are w stands is.is_open half
      | inr low ↦ roomy_kids low
    ]

-- the choices of a branch's children are those that it leads to
pub kids_choices : (i : Instance) (b : Branch) (turn : Turn) → IsBranch i (choice_of i turn.task) b.kind b.children → turn.piece.node ≡ node.Branch b
    → map (choice_of i) (born i turn) ≡ choices_below i (choice_of i turn.task) (node.Branch b)
kids_choices i b turn is at =
    let t = turn.task in
    let c = choice_of i t in
    let own : Turn = record { task = t; piece = record { name = turn.piece.name; node = node.Branch b } } in
    let same : turn ≡ own = λ j. record { task = t; piece = record { name = turn.piece.name; node = at j } } in
    let one : (k : ℕ) → choice_of i (child_task i own k) ≡ child i c b.kind k = λ k. choice_after_child i t b.kind k in
    let mapped = map-map (choice_of i) (child_task i own) (range_with_len 0 b.children) in
    let each : map (λ (k : ℕ). choice_of i (child_task i own k)) (range_with_len 0 b.children) ≡ map (child i c b.kind) (range_with_len 0 b.children)
    = λ j. map (λ (k : ℕ). one k j) (range_with_len 0 b.children) in
    ap (λ (x : Turn). map (choice_of i) (born i x)) same ∙ mapped ∙ each ∙ ap (λ (n : ℕ). map (child i c b.kind) (range_with_len 0 n)) is.just

-- a leaf has none
pub no_kids : (i : Instance) (turn : Turn) (leaf : Leaf) → turn.piece.node ≡ node.Leaf leaf → born i turn ≡ []
no_kids i turn leaf at = ap (λ (n : Node). map (child_task i turn) (range_with_len 0 (node_children n))) at
