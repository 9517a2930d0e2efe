use Rattle.std.proofs.Common.{rules, ◌≡◌, ◌++◌, ◌∷◌, [], List, All, sym, subst}
use Rattle.std.proofs.lemmas.Result.{on_ok_weaker}
use Rattle.search_workers.specs.declared.job.Job.{Job}
use Rattle.search_workers.proofs.Searching.{front_of}
use Rattle.planner.specs.Crew.{AreReportsOf, IsJob, IsReportOfJob}
use Rattle.planner.proofs.Reports.{one_more_report}
use Rattle.planner.proofs.crew.+start_all.Goals as goal

pub returns-clause-reports : goal.returns-clause-reports
returns-clause-reports g t c =
    let i = g.J.Searched.instance in
    let job = c.in-Some.job in
    let front = c.pop.new.self.items in
    let others = c.start_all-others.new.reports.items in
    let popped : c.args.jobs.now.items ≡ front ++ job ∷ [] = search rules in
    let kept : IsReportOfJob i c.args.course.aims job c.join-report.result = search rules in
    let more : AreReportsOf i c.args.course.aims front others → AreReportsOf i c.args.course.aims c.args.jobs.now.items c.push_reserved.new.self.items = λ each.
    subst (λ (js : List (Job g.row.J.Denot)). AreReportsOf i c.args.course.aims js c.push_reserved.new.self.items) (sym popped)
    (subst (AreReportsOf i c.args.course.aims (front ++ job ∷ [])) (sym c.push_reserved.ensures.items) (one_more_report i c.args.course.aims front others job c.join-report.result each kept)) in
    on_ok_weaker c.start_all-others.result more c.start_all-others.ensures.reports

pub start_all-others-requires-clause-jobs : goal.start_all-others-requires-clause-jobs
start_all-others-requires-clause-jobs g t c κs within =
    let P : Job g.row.J.Denot → Type 0 = IsJob c.args.word.now in
    let popped : c.args.jobs.now.items ≡ c.pop.new.self.items ++ c.in-Some.job ∷ [] = search rules in
    front_of P c.pop.new.self.items c.in-Some.job (subst (All P) popped c.requires.jobs)
