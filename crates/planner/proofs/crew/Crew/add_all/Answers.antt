use Rattle.std.proofs.Common.{arith, ◌∷◌, [], List, sym, ap, subst, ◌∙◌}
use Rattle.std.proofs.lemmas.List.{map-append}
use Rattle.std.proofs.lemmas.List.Sums.{sum_by_push}
use Rattle.search_workers.specs.hand.Hand.{Hand}
use Rattle.search_workers.specs.declared.job.Job.{Job}
use Rattle.planner.specs.Crew.{Gathers, budget_of, hands_of}
use Rattle.planner.proofs.Reports.{last_report, last_is, no_jobs}
use Rattle.planner.proofs.crew.Crew.add_all.Goals as goal

pub loop-report-init : goal.loop-report-init
loop-report-init g c = record {
  opening = c.requires.opening;
  gathers = λ aims count jobs w are each gathers.
      subst (λ (js : List (Job g.row.J.Denot)). Gathers g.J.Searched.instance aims c.args.word.now count (hands_of js) c.args.self.now)
      (sym (no_jobs g.J.Searched.instance aims jobs each)) gathers;
  within = λ aims jobs each. omega arith;
  no_later = λ aims jobs w found each. record { found = found; limit = omega arith };
}

pub loop-report-preserved : goal.loop-report-preserved
loop-report-preserved g c =
    let i = g.J.Searched.instance in
    let word = c.args.word.now in
    let inv = c.loop-report.invariant in
    let done = c.loop-report.yielded in
    let report = c.in-Some.report in
    record {
      opening = c.in_ok-add.ensures.opening;
      gathers = λ aims count jobs w are each gathers.
          let last = last_report i aims jobs done report each in
          let of_last = last_is word jobs last.front last.job last.is are in
          let before = inv.gathers aims count last.front w of_last.0 last.each gathers in
          let after = c.in_ok-add.ensures.gathers aims count (hands_of last.front) last.job w before of_last.1 last.last in
          let hands = ap hands_of last.is ∙ map-append (λ (job : Job g.row.J.Denot). job.hand) last.front (last.job ∷ []) in
          subst (λ (l : List (Hand g.row.J.Denot)). Gathers i aims word count l c.add.new.self) (sym hands) after;
      within = λ aims jobs each.
          let last = last_report i aims jobs done report each in
          let sum = ap budget_of last.is ∙ sum_by_push (λ (job : Job g.row.J.Denot). job.budget) last.front last.job in
          omega (arith, sum, inv.within aims last.front last.each, c.in_ok-add.ensures.more, last.last.within);
      no_later = λ aims jobs w found each.
          let last = last_report i aims jobs done report each in
          let before = inv.no_later aims last.front w found last.each in
          let after = c.in_ok-add.ensures.no_later aims last.job w before.found last.last in
          record { found = after.found; limit = omega (arith, after.limit, before.limit) };
    }
