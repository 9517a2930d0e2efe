use Rattle.std.proofs.Common.{None, refl, sym, subst}
use Rattle.incumbent.specs.declared.word.Watch.{Watch}
use Rattle.incumbent.specs.Watch.{IsSameWatch}
use Rattle.steal_pool.specs.declared.hand.Hand.{Hand}
use Rattle.steal_pool.specs.Hand.{IsSameHand}
use Rattle.search_workers.specs.declared.run.Run.{Run}
use Rattle.search_workers.proofs.Begun.{begins}
use Rattle.search_workers.proofs.worker.run_worker_in.Goals as goal

pub returns-clause-hand : goal.returns-clause-hand
returns-clause-hand g c =
    let first : Run g.row.J.Denot = record {
      hand = c.args.job.hand;
      watch = c.args.job.watch;
      pieces = c.new.result;
      spared = c.new-2.result;
      room
          = c.new-3.result;
      workers = c.args.job.workers;
      best = None;
    } in
    let run = c.turns-rest.ensures.goes_on c.args.job.hand c.args.job.watch (begins c.args.site.now.instance.now c.args.course.aims first c.new.ensures.items c.new-2.ensures.items refl) in
    subst (λ (h : Hand g.row.J.Denot). IsSameHand c.args.job.hand h) (sym c.report.ensures.hand) run.same

pub returns-clause-watch : goal.returns-clause-watch
returns-clause-watch g c =
    let first : Run g.row.J.Denot = record {
      hand = c.args.job.hand;
      watch = c.args.job.watch;
      pieces = c.new.result;
      spared = c.new-2.result;
      room
          = c.new-3.result;
      workers = c.args.job.workers;
      best = None;
    } in
    let run = c.turns-rest.ensures.goes_on c.args.job.hand c.args.job.watch (begins c.args.site.now.instance.now c.args.course.aims first c.new.ensures.items c.new-2.ensures.items refl) in
    subst (λ (w : Watch). IsSameWatch c.args.job.watch w) (sym c.report.ensures.watch) run.follows.same

pub returns-clause-account : goal.returns-clause-account
returns-clause-account g c =
    let first : Run g.row.J.Denot = record {
      hand = c.args.job.hand;
      watch = c.args.job.watch;
      pieces = c.new.result;
      spared = c.new-2.result;
      room
          = c.new-3.result;
      workers = c.args.job.workers;
      best = None;
    } in
    let run = c.turns-rest.ensures.goes_on c.args.job.hand c.args.job.watch (begins c.args.site.now.instance.now c.args.course.aims first c.new.ensures.items c.new-2.ensures.items refl) in
    rw c.report.ensures.hand (rw c.report.ensures.pieces (rw c.report.ensures.spared (rw c.report.ensures.rest run.account)))

pub returns-clause-goals : goal.returns-clause-goals
returns-clause-goals g c =
    let first : Run g.row.J.Denot = record {
      hand = c.args.job.hand;
      watch = c.args.job.watch;
      pieces = c.new.result;
      spared = c.new-2.result;
      room
          = c.new-3.result;
      workers = c.args.job.workers;
      best = None;
    } in
    let run = c.turns-rest.ensures.goes_on c.args.job.hand c.args.job.watch (begins c.args.site.now.instance.now c.args.course.aims first c.new.ensures.items c.new-2.ensures.items refl) in
    rw c.report.ensures.watch (rw c.report.ensures.pieces run.goals)

pub returns-clause-best : goal.returns-clause-best
returns-clause-best g c =
    let first : Run g.row.J.Denot = record {
      hand = c.args.job.hand;
      watch = c.args.job.watch;
      pieces = c.new.result;
      spared = c.new-2.result;
      room
          = c.new-3.result;
      workers = c.args.job.workers;
      best = None;
    } in
    let run = c.turns-rest.ensures.goes_on c.args.job.hand c.args.job.watch (begins c.args.site.now.instance.now c.args.course.aims first c.new.ensures.items c.new-2.ensures.items refl) in
    rw c.report.ensures.watch (rw c.report.ensures.best run.best)
