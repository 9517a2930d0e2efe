use Rattle.std.proofs.Common.{[], ◌∷◌, All, subst}
use Rattle.search_workers.specs.Task.{IsTask, root_task}
use Rattle.search_workers.proofs.Searching.{begun}
use Rattle.planner.proofs.onward.search_of.Goals as goal

pub returns-clause-begins : goal.returns-clause-begins
returns-clause-begins c = λ aims.
    let i = c.args.instance.now in
    let root = c.in_ok-tasks.ensures.root in
    rw (c.new.ensures.items, root) (begun i aims (root_task ∷ []) c.args.best (subst (All (IsTask i)) root c.in_ok-tasks.ensures.tasks) c.requires)
