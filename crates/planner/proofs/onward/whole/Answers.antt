use Rattle.std.proofs.Common.{arith, [], ◌∷◌, ap}
use Rattle.std.proofs.lemmas.Result.{IfOk-weaker}
use Rattle.search_workers.specs.Searching.{limit_of}
use Rattle.search_workers.specs.Task.{root_task}
use Rattle.planner.proofs.onward.whole.Goals as goal

pub worked_by_pool-requires-clause-searching : goal.worked_by_pool-requires-clause-searching
worked_by_pool-requires-clause-searching g c κs within = (root_task ∷ [], c.args.aside.items, c.requires.searching)

pub brought_out-requires-clause-searching : goal.brought_out-requires-clause-searching
brought_out-requires-clause-searching g c κs within =
    let is = c.in_ok-whole.ensures in
    rw (is.tasks, is.pieces, is.best) (c.in_ok-worked.ensures.searching (root_task ∷ []) c.args.aside.items c.requires.searching)

pub brought_out-requires-clause-within : goal.brought_out-requires-clause-within
brought_out-requires-clause-within g c κs within = rw c.in_ok-whole.ensures.pieces c.in_ok-worked.ensures.within

pub returns-clause-no_later : goal.returns-clause-no_later
returns-clause-no_later g c =
    let same = ap (limit_of c.args.site.now.instance.now) c.in_ok-whole.ensures.best in
    IfOk-weaker c.brought_out.result _ _ (λ outcome later. omega (arith, later, same, c.in_ok-worked.ensures.no_later)) c.brought_out.ensures.no_later
