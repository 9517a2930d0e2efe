use Rattle.std.proofs.Common.{arith, ◌≡◌, List, length, sym, ap, ◌∙◌, subst}
use Rattle.std.specs.List.Sorted.{IsPermutation}
use Rattle.std.proofs.lemmas.List.{length-map}
use Rattle.incumbent.specs.Watch.{out_count}
use Rattle.search_workers.specs.hand.Hand.{Hand}
use Rattle.search_workers.specs.Hand.{all_pushed, all_taken, IsPool}
use Rattle.planner.specs.declared.crew.Crew.{Crew}
use Rattle.search_workers.specs.declared.job.Job.{Job}
use Rattle.planner.specs.Crew.{hands_of}
use Rattle.planner.proofs.Crews.{nobody_yet}
use Rattle.planner.proofs.Reports.{watches_of}
use Rattle.planner.proofs.collecting.crewed.Goals as goal

pub add_all-requires-clause-watches : goal.add_all-requires-clause-watches
add_all-requires-clause-watches g c =
    watches_of c.args.word.now g.J.Searched.instance c.args.course.aims c.in_ok-jobs.jobs.items c.in_ok-reports.reports.items c.in_ok-jobs.ensures.jobs c.in_ok-reports.ensures.reports

pub returns-clause-within : goal.returns-clause-within
returns-clause-within g c =
    let all = c.in_ok-add_all.ensures.within c.args.course.aims c.in_ok-jobs.jobs.items c.in_ok-reports.ensures.reports in
    let none : length c.args.crew.now.pieces.items ≡ 0 = ap length c.requires.nobody.pieces in
    omega (arith, all, none, c.in_ok-jobs.ensures.within)

pub returns-clause-ended : goal.returns-clause-ended
returns-clause-ended g c =
    let i = g.J.Searched.instance in
    let word = c.args.word.now in
    let old = c.args.crew.now in
    let nobody = c.requires.nobody in
    let jobs = c.in_ok-jobs.jobs.items in
    let dealt = c.in_ok-jobs.ensures in
    let begun : List (Hand g.row.J.Denot) = hands_of jobs in
    let crew : Crew g.row.J.Denot = record { hands = old.hands; watch = c.deal.new.opening; pieces = old.pieces; room = old.room; tasks = old.tasks; spared = old.spared; best = old.best } in
    let many : length begun ≡ length jobs = length-map jobs (λ (job : Job g.row.J.Denot). job.hand) in
    let out : out_count crew.watch ≡ length begun = omega (arith, dealt.out, nobody.alone, many) in
    let before = nobody_yet i c.args.course.aims word (length begun) crew nobody.hands nobody.pieces nobody.tasks dealt.opening out nobody.found (dealt.same ∙ nobody.offered) in
    record {
      begun = begun;
      gathers = c.in_ok-add_all.ensures.gathers c.args.course.aims (length begun) jobs c.requires.instance dealt.jobs c.in_ok-reports.ensures.reports before;
      pool = subst IsPool (sym dealt.hands) c.in_ok-hands.ensures.pool;
      pushes = subst (λ (l : List (Hand g.row.J.Denot)). IsPermutation (all_pushed l) c.args.tasks.items) (sym dealt.hands) c.in_ok-hands.ensures.pushed;
      takes = ap all_taken dealt.hands ∙ c.in_ok-hands.ensures.taken;
      top = nobody.top;
    }

pub returns-clause-no_later : goal.returns-clause-no_later
returns-clause-no_later g c =
    (c.in_ok-add_all.ensures.no_later c.args.course.aims c.in_ok-jobs.jobs.items c.requires.instance c.requires.nobody.found c.in_ok-reports.ensures.reports).limit
