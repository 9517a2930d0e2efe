use Rattle.std.proofs.Common.{◌≤◌, arith, ℕ, IfOk, List, subst}
use Rattle.std.proofs.lemmas.Result.{IfOk-weaker}
use Rattle.search_workers.specs.Task.{Task}
use Rattle.search_workers.specs.Searching.{limit_of, IsSearchingOf}
use Rattle.planner.specs.Answers.{best_of, IsOutcome}
use Rattle.planner.proofs.Starts.{no_later_than}
use Rattle.planner.proofs.solving.solve_towards.Goals as goal

pub brought_out-requires-clause-searching : goal.brought_out-requires-clause-searching
brought_out-requires-clause-searching g c κs within =
    let search = c.in_ok-search.search in
    subst (λ (roots : List Task). IsSearchingOf c.args.site.now.instance.now c.in_ok-course.course.aims roots search.pieces.items search.tasks.items search.best)
    c.in_ok-tasks.ensures.root c.in_ok-search.ensures.searching

pub returns-clause-answer : goal.returns-clause-answer
returns-clause-answer g c =
    subst (λ (gap : ℕ). IfOk c.brought_out.result (IsOutcome c.args.site.now.instance.now c.args.options gap)) c.in_ok-course.ensures.gap
    c.brought_out.ensures.answer

pub returns-clause-start : goal.returns-clause-start
returns-clause-start g c =
    let i = c.args.site.now.instance.now in
    IfOk-weaker c.brought_out.result _ _
    (λ outcome later. let began = c.in_ok-search.ensures.no_later in
    let all : limit_of i (best_of outcome) ≤ limit_of i c.in_ok-first.first = omega (arith, later, began) in
    no_later_than i c.args.start c.in_ok-first.first (best_of outcome) all c.in_ok-first.ensures.no_later)
    c.brought_out.ensures.no_later
