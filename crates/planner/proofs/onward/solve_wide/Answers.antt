use Rattle.std.proofs.Common.{◌≤◌, Option, IfOk, ℕ, subst}
use Rattle.std.proofs.lemmas.Result.{IfOk-weaker}
use Rattle.search_workers.specs.Searching.{limit_of}
use Rattle.search_workers.specs.declared.found.FoundPlan.{FoundPlan}
use Rattle.planner.specs.Answers.{best_of, IsOutcome}
use Rattle.planner.proofs.Starts.{no_later_than}
use Rattle.planner.proofs.onward.solve_wide.Goals as goal

pub returns-clause-answer : goal.returns-clause-answer
returns-clause-answer g c =
    subst (λ (gap : ℕ). IfOk c.whole_wide.result (IsOutcome c.args.site.now.instance.now c.args.options gap)) c.in_ok-course.ensures.gap c.whole_wide.ensures.answer

pub returns-clause-start : goal.returns-clause-start
returns-clause-start g c =
    let i = c.args.site.now.instance.now in
    IfOk-weaker c.whole_wide.result _ _
    (λ outcome later. no_later_than i c.args.start c.in_ok-first.first (best_of outcome)
    (subst (λ (b : Option FoundPlan). limit_of i (best_of outcome) ≤ limit_of i b) c.in_ok-search.ensures.best later) c.in_ok-first.ensures.no_later)
    c.whole_wide.ensures.no_later

pub whole_wide-requires-clause-searching : goal.whole_wide-requires-clause-searching
whole_wide-requires-clause-searching g c = rw c.new-aside.ensures.items (c.in_ok-search.ensures.begins c.in_ok-course.course.aims)
