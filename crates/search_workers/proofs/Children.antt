-- The children of a split are those that its branch gives; and a leaf that is sharp is right.
use Rattle.std.proofs.Common.{◌≡◌, ℕ, List, [], ◌∷◌, map, length, refl, sym, ap, ◌∙◌, subst}
use Rattle.std.specs.List.{range_with_len}
use Rattle.std.proofs.lemmas.Simd.{map-map}
use Rattle.ttp_model.specs.declared.step.Kind.{Kind}
use Rattle.ttp_model.specs.declared.step.Leaf.{Leaf}
use Rattle.ttp_model.specs.Kinds.{children_of, HasOwnCount, HasOwnCount-children_of}
use Rattle.ttp_model.specs.Instance.{Instance}
use Rattle.tt_choice.specs.declared.decision.Decision.{Decision}
use Rattle.tt_choice.specs.Choice.{Choice}
use Rattle.tt_choice.specs.Branches.{IsBranch, branch}
use Rattle.tt_choice.specs.Decisions.{decision_of}
use Rattle.certificate.specs.declared.branch.Branch.{Branch}
use Rattle.certificate.specs.Branch.{branch_of}
use Rattle.certificate.specs.declared.node.Node.{Node}
use Rattle.certificate.specs.declared.node.Node.TheVariants as node
use Rattle.branch_tree.specs.Name.{Name, child_name}
use Rattle.branch_tree.specs.Pieces.{IsRight, IsSharp, choice_below}
use Rattle.branch_tree.specs.Task.{Task, choice_of}
use Rattle.branch_tree.specs.Work.{IsSplit}
use Rattle.branch_tree.proofs.ChildTasks.{with_one}
use Rattle.branch_tree.proofs.Chosen.{choice_after_child}
use Rattle.used_decisions.proofs.RuledOut.{closes_sharply}
use Rattle.search_workers.specs.Tasks.{decisions_below, born}

-- the choice of a child's task is the one that its parent's node leads to
pub choice_of_child : (i : Instance) (t : Task) (n : Node) (k : ℕ)
    → choice_of i (record t { decisions = decisions_below i t n k }) ≡ choice_below i (choice_of i t) n k
choice_of_child i t (node.Branch b) k = choice_after_child i t b.kind k
choice_of_child i t (node.Leaf leaf) k = refl

-- the task with a number's name and decisions
abbrev numbered : (ℕ → Name) → (ℕ → List Decision) → ℕ → Task
numbered n ds k = record { name = n k; decisions = ds k }

-- tasks with these names and decisions
of_parts : (kids : List Task) (ks : List ℕ) (n : ℕ → Name) (ds : ℕ → List Decision) → map (λ (t : Task). t.name) kids ≡ map n ks
    → map (λ (t : Task). t.decisions) kids ≡ map ds ks
    → kids ≡ map (numbered n ds) ks
of_parts [] [] n ds e f = refl
of_parts [] (k ∷ ks) n ds e f = absurd cc
of_parts (t ∷ ts) [] n ds e f = absurd cc
of_parts (t ∷ ts) (k ∷ ks) n ds e f =
    let name : t.name ≡ n k = cc in
    let decisions : t.decisions ≡ ds k = cc in
    let names : map (λ (t : Task). t.name) ts ≡ map n ks = cc in
    let others : map (λ (t : Task). t.decisions) ts ≡ map ds ks = cc in
    let rest = of_parts ts ks n ds names others in
    let same : t ≡ numbered n ds k = λ j. record { name = name j; decisions = decisions j } in
    λ j. same j ∷ rest j

-- a branch of a split has as many children as there are tasks
counted : (i : Instance) (c : Choice) (k : Kind) (count : ℕ) → IsBranch i c k count → children_of k count ≡ count
counted i c k count is = sym (subst (HasOwnCount k) (sym is.just) (HasOwnCount-children_of k (branch i c k).options))

module _ (i : Instance) (t : Task) (goal : ℕ) (k : Kind) (kids : List Task) (split : IsSplit i t goal k kids) (name : Name) where
  born_of : kids ≡ born i (record { task = t; piece = record { name = name; node = node.Branch (branch_of k (length kids)) } })
  born_of =
      let c = choice_of i t in
      let below = λ (n : ℕ). with_one t.decisions (decision_of i c k n) in
      let many = counted i c k (length kids) split.branch in
      let all = split.children.decisions ∙ ap (λ n. map (with_one t.decisions) (map (decision_of i c k) (range_with_len 0 n))) (sym split.branch.just) in
      let decisions = all ∙ map-map (with_one t.decisions) (decision_of i c k) (range_with_len 0 (length kids)) in
      of_parts kids (range_with_len 0 (length kids)) (child_name t.name) below split.children.names decisions
      ∙ ap (λ n. map (numbered (child_name t.name) below) (range_with_len 0 n)) (sym many)

  pub kids_born : (b : Branch) → b ≡ branch_of k (length kids) → kids ≡ born i (record { task = t; piece = record { name = name; node = node.Branch b } })
  kids_born b e = subst (λ (b' : Branch). kids ≡ born i (record { task = t; piece = record { name = name; node = node.Branch b' } })) (sym e) born_of

  pub branch_right : (b : Branch) → b ≡ branch_of k (length kids) → IsRight i (choice_of i t) (node.Branch b)
  branch_right b e =
      let many = counted i (choice_of i t) k (length kids) split.branch in
      let is : IsRight i (choice_of i t) (node.Branch (branch_of k (length kids)))
      = record { is_open = split.branch.is_open; just = many ∙ split.branch.just } in
      subst (λ (b' : Branch). IsRight i (choice_of i t) (node.Branch b')) (sym e) is

pub leaf_right : (i : Instance) (c : Choice) (leaf : Leaf) → IsSharp i c (node.Leaf leaf) → IsRight i c (node.Leaf leaf)
leaf_right i c leaf sharp = closes_sharply i c leaf sharp
