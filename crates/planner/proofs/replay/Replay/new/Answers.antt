use Rattle.std.proofs.Common.{subst}
use Rattle.search_workers.specs.Task.{Task, IsTask}
use Rattle.planner.proofs.Finished.{root_stands}
use Rattle.planner.proofs.replay.Replay.new.Goals as goal

pub returns-clause-begins : goal.returns-clause-begins
returns-clause-begins c = λ aims best low nodes found at proofs.
    let i = c.args.instance.now in
    let is = subst (λ (t : Task). IsTask i t) c.in_ok-root.ensures.value c.in_ok-root.ensures.task in
    rw (c.new.ensures.items, c.new-2.ensures.items, c.new-3.ensures.items, c.in_ok-next.ensures.items, c.in_ok-root.ensures.value)
    (root_stands i aims best low c.args.aim nodes is found at proofs)
