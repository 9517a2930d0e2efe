use Rattle.std.proofs.Common.{[], ◌∷◌, arith, ap}
use Rattle.std.proofs.lemmas.Result.{IfOk-weaker}
use Rattle.search_workers.specs.Searching.{limit_of}
use Rattle.search_workers.specs.Task.{root_task}
use Rattle.search_workers.specs.declared.search.Search.{Search}
use Rattle.planner.proofs.onward.wide_end.Goals as goal

pub widen-why-requires-clause-searching : goal.widen-why-requires-clause-searching
widen-why-requires-clause-searching g c = (root_task ∷ [], [], rw c.in-Err.ensures.err c.requires.searching)

pub widen-why-requires-clause-within : goal.widen-why-requires-clause-within
widen-why-requires-clause-within g c = rw c.in-Err.ensures.err c.requires.within

pub finished-requires-clause-searching : goal.finished-requires-clause-searching
finished-requires-clause-searching g c = c.widen-why.ensures.searching (root_task ∷ []) [] (rw c.in-Err.ensures.err c.requires.searching)

pub returns-in-Ok-clause-called_off : goal.returns-in-Ok-clause-called_off
returns-in-Ok-clause-called_off g c = λ off. absurd (c.in-Ok.ensures.called_off off)

pub returns-in-Ok-clause-no_later : goal.returns-in-Ok-clause-no_later
returns-in-Ok-clause-no_later g c = rw c.in-Ok.ensures.best (omega arith)

pub returns-in-Err-clause-called_off : goal.returns-in-Err-clause-called_off
returns-in-Err-clause-called_off g c = IfOk-weaker c.finished.result _ _ (λ outcome is off. c.widen-why.ensures.called_off (is off)) c.finished.ensures.called_off

pub returns-in-Err-clause-no_later : goal.returns-in-Err-clause-no_later
returns-in-Err-clause-no_later g c =
    let i = c.args.site.now.instance.now in
    let same = ap (λ (s : Search). limit_of i s.best) c.in-Err.ensures.err in
    IfOk-weaker c.finished.result _ _
    (λ outcome is. let known = ap (limit_of i) is in omega (arith, known, same, c.widen-why.ensures.no_later))
    c.finished.ensures.best
