-- The tasks of a branch's children: each is one of the instance, is smaller, and together they have all valid plans.
use Rattle.std.proofs.Common.{◌≡◌, ℕ, ◌+◌, ◌<◌, ◌≤◌, List, [], ◌∷◌, ◌++◌, length, length-append, slice_index_or, All, arith, ap, sym, subst, ◌∙◌, Bool, IsTrue, ◌↔◌, Option, Some}
use Rattle.std.proofs.lemmas.List.{length-map, get_or-map}
use Rattle.std.proofs.lemmas.List.FromFn.{get_or-map-range_with_len}
use Rattle.std.proofs.Math.Nat.{zero-add}
use Rattle.ttp_model.specs.declared.step.Kind.{Kind}
use Rattle.ttp_model.specs.declared.step.Kind.TheVariants.{Place}
use Rattle.ttp_model.specs.Instance.{Instance}
use Rattle.ttp_model.specs.Rules.{IsInstance}
use Rattle.ttp_model.specs.Chains.{IsPathBound}
use Rattle.tt_choice.specs.declared.decision.Decision.{Decision}
use Rattle.tt_choice.specs.Choice.{Choice, IsIn}
use Rattle.tt_choice.specs.Branches.{IsOpen, root_choice, children, child}
use Rattle.tt_choice.specs.Decisions.{AreOpenDecisions, chosen, decision_of, decisions_of}
use Rattle.tt_choice.specs.Sizes.{size_left, Halves}
use Rattle.tt_choice.proofs.Children.{child-IsIn}
use Rattle.tt_choice.proofs.Decisions.{open-more, decision_is_open}
use Rattle.tt_choice.proofs.Smaller.{size_left-child}
use Rattle.search_trees.specs.Name.{Name, child_name, root_name}
use Rattle.search_trees.specs.Task.{Task, choice_of, IsTask, root_task, AreChildren}
use Rattle.branch_tree.specs.Work.{Cover, IsSplit}
use Rattle.branch_tree.specs.Branching.{IsBranching}
use Rattle.search_trees.proofs.Chosen.{task_choice, choice_after_child}
use Rattle.search_trees.proofs.ChildTasks.{with_one}
use Rattle.search_trees.proofs.DecisionLists.{length-decisions_of, decision_at}
use Rattle.branch_tree.proofs.Incomplete.{open_incomplete}

module _ (i : Instance) (t : Task) (kind : Kind) (tasks : List Task) (are : AreChildren i t kind tasks) where
  abbrev c : Choice
  c = choice_of i t

  pub count : length tasks ≡ children i c kind
  count =
      sym (length-map tasks (λ (task : Task). task.decisions)) ∙ ap length are.decisions
      ∙ length-map (decisions_of i c kind) (with_one t.decisions) ∙ length-decisions_of i c kind

  pub name_at : (k : ℕ) (d : Task) → k < length tasks → (slice_index_or tasks k d).name ≡ child_name t.name k
  name_at k d inside =
      sym (get_or-map (λ (task : Task). task.name) tasks k d d.name inside)
      ∙ ap (λ (names : List Name). slice_index_or names k d.name) are.names
      ∙ get_or-map-range_with_len (child_name t.name) 0 (length tasks) k k d.name inside (zero-add k)

  pub decisions_at : (k : ℕ) (d : Task) → k < length tasks → (slice_index_or tasks k d).decisions ≡ t.decisions ++ decision_of i c kind k ∷ []
  decisions_at k d inside =
      let own = decision_of i c kind k in
      let inside_children : k < children i c kind = omega (arith, inside, count) in
      let inside_list : k < length (decisions_of i c kind) = omega (arith, inside_children, length-decisions_of i c kind) in
      sym (get_or-map (λ (task : Task). task.decisions) tasks k d d.decisions inside)
      ∙ ap (λ (all : List (List Decision)). slice_index_or all k d.decisions) are.decisions
      ∙ get_or-map (with_one t.decisions) (decisions_of i c kind) k own d.decisions inside_list
      ∙ ap (with_one t.decisions) (decision_at i c kind k own inside_children)

  pub choice_at : (k : ℕ) (d : Task) → k < length tasks → choice_of i (slice_index_or tasks k d) ≡ child i c kind k
  choice_at k d inside = ap (chosen i) (decisions_at k d inside) ∙ choice_after_child i t kind k

  module _ (w : IsInstance i) (is : IsTask i t) (is_open : IsOpen i c kind) where
    pub children_cover : Cover i t tasks
    children_cover plan v there =
        let at = child-IsIn i c kind plan (task_choice i t w is) is_open v there in
        let inside : at.0 < length tasks = omega (arith, at.1, count) in
        (at.0, inside, subst (λ (x : Choice). IsIn i x plan) (sym (choice_at at.0 t inside)) at.2)

    module _ (halves : Halves c kind) where
      smaller_at : (k : ℕ) (d : Task) → k < length tasks → size_left i (choice_of i (slice_index_or tasks k d)) < size_left i c
      smaller_at k d inside =
          let less = size_left-child i c kind k (task_choice i t w is) is_open halves in
          subst (λ (x : Choice). size_left i x < size_left i c) (sym (choice_at k d inside)) less

      longer_at : (k : ℕ) (d : Task) → k < length tasks → length (slice_index_or tasks k d).name ≡ length t.name + 1
      longer_at k d inside = ap length (name_at k d inside) ∙ length-append t.name (k ∷ [])

      pub children_smaller : All (λ (task : Task). size_left i (choice_of i task) < size_left i c) tasks
      children_smaller k d inside = smaller_at k d inside

      pub children_are_tasks : All (IsTask i) tasks
      children_are_tasks k d inside = record {
        decisions =
            let inside_children : k < children i c kind = omega (arith, inside, count) in
            let own = decision_is_open i c kind k is_open inside_children in
            subst (AreOpenDecisions i (root_choice i)) (sym (decisions_at k d inside))
            (open-more i (root_choice i) t.decisions (decision_of i c kind k) is.decisions own);
        shallow = omega (arith, smaller_at k d inside, longer_at k d inside, is.shallow);
      }

-- a task whose name is the root's places a node first, where there are several
pub root_places : (i : Instance) (t : Task) (kind : Option Kind) (at_root : Bool) → (IsTrue at_root ↔ (t.name ≡ root_name))
    → (IsTrue at_root → 2 ≤ length i.nodes → length (choice_of i t).prefix < length i.nodes → kind ≡ Some Place) → t ≡ root_task
    → 2 ≤ length i.nodes → kind ≡ Some Place
root_places i t kind at_root is places same several =
    let no_prefix : length (choice_of i t).prefix ≡ 0 = ap (λ (task : Task). length (choice_of i task).prefix) same in
    let root : IsTrue at_root = is.1 (ap (λ (task : Task). task.name) same) in
    places root several (omega (arith, no_prefix, several))

-- the branch that is there is a place
pub some_place : (kind : Kind) → Some kind ≡ Some Place → kind ≡ Place
some_place kind is = cc

-- a branch that leaves less to choose, with a task for each child, is a split
pub split_of : (i : Instance) (t : Task) (goal : ℕ) (kind : Kind) (tasks : List Task) → IsInstance i → IsTask i t
    → ((bound : ℕ) → IsPathBound i bound → bound < goal) → IsBranching i (choice_of i t) kind → AreChildren i t kind tasks
    → (t ≡ root_task → 2 ≤ length i.nodes → kind ≡ Place) → IsSplit i t goal kind tasks
split_of i t goal kind tasks w is above branching are root = record {
  incomplete = open_incomplete i (choice_of i t) kind branching.is_open;
  above = above;
  branch = record { is_open = branching.is_open; just = count i t kind tasks are };
  children = are;
  each = children_are_tasks i t kind tasks are w is branching.is_open branching.halves;
  smaller = children_smaller i t kind tasks are w is branching.is_open branching.halves;
  cover = children_cover i t kind tasks are w is branching.is_open;
  root = root;
}
