-- What contracts see of a task. Own profile.
use Rattle.std.specs.Prelude.{◌≡◌, ℕ, ◌+◌, ◌≤◌, List, [], ◌∷◌, ◌++◌, length, map}
use Rattle.ttp_model.specs.declared.step.Kind.{Kind}
use Rattle.ttp_model.specs.Instance.{Instance}
use Rattle.tt_choice.specs.declared.decision.Decision.{Decision}
use Rattle.tt_choice.specs.Choice.{Choice}
use Rattle.tt_choice.specs.Branches.{root_choice}
use Rattle.tt_choice.specs.Decisions.{AreOpenDecisions, chosen, decisions_of}
use Rattle.tt_choice.specs.Sizes.{size_left}
use Rattle.certificate.specs.Limits.{most_branches_above}
use Rattle.search_trees.specs.Name.{Name, root_name, child_name, child_names}

-- where it stands in the tree, and the decisions that lead there
pub record Task : Type 0 where
  pub name : Name
  pub decisions : List Decision

-- the choice that it begins with: what its decisions make of the one in which nothing is chosen
abbrev pub choice_of : Instance → Task → Choice
choice_of i t = chosen i t.decisions

-- the whole tree
abbrev pub root_task : Task
root_task = record { name = root_name; decisions = [] }

-- the task of the child of a number, with the decision that leads to it
abbrev pub task_after : Task → ℕ → Decision → Task
task_after t k d = record { name = child_name t.name k; decisions = t.decisions ++ d ∷ [] }

-- each decision was open, and the branches above the choice and those that it can still need are few enough
pub record IsTask (i : Instance) (t : Task) : Type 0 where
  pub decisions : AreOpenDecisions i (root_choice i) t.decisions
  pub shallow : length t.name + size_left i (choice_of i t) ≤ most_branches_above

-- a task for each child of a branch, in order: each has one decision more
pub record AreChildren (i : Instance) (t : Task) (kind : Kind) (tasks : List Task) : Type 0 where
  pub names : map (λ (task : Task). task.name) tasks ≡ child_names t.name (length tasks)
  pub decisions : map (λ (task : Task). task.decisions) tasks
      ≡ map (λ (d : Decision). t.decisions ++ d ∷ []) (decisions_of i (choice_of i t) kind)
