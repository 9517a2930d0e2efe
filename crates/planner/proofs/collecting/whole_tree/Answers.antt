use Rattle.std.proofs.Common.{refl}
use Rattle.search_workers.specs.Task.{Task, IsTask}
use Rattle.search_workers.proofs.Searching.{one_only}
use Rattle.planner.proofs.collecting.whole_tree.Goals as goal

pub returns-clause-root : goal.returns-clause-root
returns-clause-root c = rw (c.in_ok-tasks.ensures.items, c.in_ok-root.ensures.value) refl

pub returns-clause-tasks : goal.returns-clause-tasks
returns-clause-tasks c =
    let P : Task → Type 0 = IsTask c.args.instance.now in
    rw c.in_ok-tasks.ensures.items (one_only P c.in_ok-root.root c.in_ok-root.ensures.task)
