use Rattle.std.proofs.Common.{◌≤◌, [], ◌∷◌, Option, sym, subst}
use Rattle.std.proofs.lemmas.Result.{IfOk-weaker}
use Rattle.search_workers.specs.declared.found.FoundPlan.{FoundPlan}
use Rattle.search_workers.specs.Searching.{limit_of}
use Rattle.search_workers.specs.Task.{root_task}
use Rattle.planner.proofs.solving.worked_out.Goals as goal

pub returns-clause-called_off : goal.returns-clause-called_off
returns-clause-called_off g c = IfOk-weaker c.finished.result _ _ (λ outcome is off. c.go-why.ensures.called_off (is off)) c.finished.ensures.called_off

pub returns-clause-no_later : goal.returns-clause-no_later
returns-clause-no_later g c =
    let i = c.args.site.now.instance.now in
    IfOk-weaker c.finished.result _ _
    (λ outcome same. subst (λ (b : Option FoundPlan). limit_of i b ≤ limit_of i c.args.search.best) (sym same) c.go-why.ensures.no_later)
    c.finished.ensures.best

pub go-why-requires-clause-searching : goal.go-why-requires-clause-searching
go-why-requires-clause-searching g c κs within = (root_task ∷ [], [], c.requires.searching)

pub finished-requires-clause-searching : goal.finished-requires-clause-searching
finished-requires-clause-searching g c = c.go-why.ensures.searching (root_task ∷ []) [] c.requires.searching
