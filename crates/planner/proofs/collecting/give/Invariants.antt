use Rattle.std.proofs.Common.{◌≡◌, ◌++◌, List, vec_len}
use Rattle.std.specs.Prelude.{All, IsPermutation}
use Rattle.search_workers.specs.Task.{Task, IsTask}
use Rattle.search_workers.specs.Hand.{pushed, taken, IsSameHand}
use Rattle.planner.proofs.collecting.give.Given as goal

abbrev pub decreases-loop-task : goal.decreases-loop-task
decreases-loop-task g l = vec_len l.left

abbrev pub invariant-loop-task : goal.invariant-loop-task
invariant-loop-task g l = record {
  same : IsSameHand l.initial.hand l.hand;
  takes : taken l.hand ≡ taken l.initial.hand;
  gave : List Task;
  pushes : pushed l.hand ≡ pushed l.initial.hand ++ gave;
  all : IsPermutation (gave ++ l.left.items) l.fn.tasks.items;
  each : All (IsTask g.J.Searched.instance) l.left.items;
}
