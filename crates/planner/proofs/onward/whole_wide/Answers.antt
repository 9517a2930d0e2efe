use Rattle.std.proofs.Common.{arith, [], ◌∷◌, ap}
use Rattle.std.proofs.lemmas.Result.{IfOk-weaker}
use Rattle.search_workers.specs.Searching.{limit_of}
use Rattle.search_workers.specs.Task.{root_task}
use Rattle.planner.proofs.onward.whole_wide.Goals as goal

pub widen-why-requires-clause-searching : goal.widen-why-requires-clause-searching
widen-why-requires-clause-searching g c = (root_task ∷ [], c.args.aside.items, c.requires.searching)

pub wide_end-requires-clause-searching : goal.wide_end-requires-clause-searching
wide_end-requires-clause-searching g c =
    let is = c.in_ok-whole.ensures in
    rw (is.tasks, is.pieces, is.best) (c.widen-why.ensures.searching (root_task ∷ []) c.args.aside.items c.requires.searching)

pub wide_end-requires-clause-within : goal.wide_end-requires-clause-within
wide_end-requires-clause-within g c = rw c.in_ok-whole.ensures.pieces c.widen-why.ensures.within

pub returns-clause-no_later : goal.returns-clause-no_later
returns-clause-no_later g c =
    let same = ap (limit_of c.args.site.now.instance.now) c.in_ok-whole.ensures.best in
    IfOk-weaker c.wide_end.result _ _ (λ outcome later. omega (arith, later, same, c.widen-why.ensures.no_later)) c.wide_end.ensures.no_later
