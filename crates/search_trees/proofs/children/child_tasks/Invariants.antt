use Rattle.std.proofs.Common.{◌≡◌, length, map}
use Rattle.search_trees.specs.Name.{child_names}
use Rattle.search_trees.specs.Task.{Task}
use Rattle.search_trees.proofs.ChildTasks.{with_one}
use Rattle.search_trees.proofs.children.child_tasks.Given as goal

abbrev pub invariant-loop-decision : goal.invariant-loop-decision
invariant-loop-decision l = record {
  number : l.index ≡ length l.yielded;
  names : map (λ (task : Task). task.name) l.tasks.items ≡ child_names l.task.name (length l.yielded);
  decisions : map (λ (task : Task). task.decisions) l.tasks.items ≡ map (with_one l.task.decisions) l.yielded;
}
