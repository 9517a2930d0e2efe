use Rattle.std.proofs.Common.{◌≡◌, ◌++◌, List}
use Rattle.std.specs.Prelude.{All, IsPermutation}
use Rattle.search_workers.specs.Task.{Task, IsTask}
use Rattle.search_workers.specs.Drained.{left_there, pushed_there, taken_there}
use Rattle.planner.proofs.collecting.drain_into.Given as goal

abbrev pub decreases-left : goal.decreases-left
decreases-left g l = left_there l.left

abbrev pub invariant-left : goal.invariant-left
invariant-left g l = record {
  drained : List Task;
  tasks : l.tasks.items ≡ l.initial.tasks.items ++ drained;
  each : All (IsTask g.J.Searched.instance) l.tasks.items;
  pushes : pushed_there l.left ≡ pushed_there l.initial.left;
  takes : IsPermutation (taken_there l.left) (drained ++ taken_there l.initial.left);
}
