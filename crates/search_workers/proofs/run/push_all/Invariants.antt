use Rattle.std.proofs.Common.{◌≡◌, vec_len}
use Rattle.std.specs.Prelude.{All}
use Rattle.branch_tree.specs.Task.{IsTask}
use Rattle.steal_pool.specs.Hand.{pushed, taken, IsSameHand}
use Rattle.search_workers.specs.Run.{Pushes}
use Rattle.search_workers.proofs.run.push_all.Given as goal

abbrev pub decreases-loop-task : goal.decreases-loop-task
decreases-loop-task g l = vec_len l.left

abbrev pub invariant-loop-task : goal.invariant-loop-task
invariant-loop-task g l = record {
  same : IsSameHand l.initial.hand l.hand;
  takes : taken l.hand ≡ taken l.initial.hand;
  pushes : Pushes (pushed l.initial.hand) (pushed l.hand) l.fn.tasks.items l.left.items;
  each : All (IsTask g.J.Searched.instance) l.left.items;
}
