use Rattle.search_workers.specs.declared.job.Job.{Job}
use Rattle.planner.proofs.Jobs.{more_hands, more_jobs, more_budget, more_many}
use Rattle.planner.proofs.collecting.deal_one.Goals as goal

pub returns-clause-hands : goal.returns-clause-hands
returns-clause-hands g c =
    let job : Job g.row.J.Denot = record { hand = c.args.hand; watch = c.in_ok-watch.watch; budget = c.args.budget; workers = c.args.workers } in
    more_hands c.args.jobs.now.items c.push.new.self.items job c.in_ok-push.ensures.items

pub returns-clause-jobs : goal.returns-clause-jobs
returns-clause-jobs g c =
    let job : Job g.row.J.Denot = record { hand = c.args.hand; watch = c.in_ok-watch.watch; budget = c.args.budget; workers = c.args.workers } in
    more_jobs c.args.jobs.now.items c.push.new.self.items job c.in_ok-push.ensures.items c.args.word.now (record { other = c.in_ok-watch.ensures.other; silent = c.in_ok-watch.ensures.other_offers })

pub returns-clause-budget : goal.returns-clause-budget
returns-clause-budget g c =
    let job : Job g.row.J.Denot = record { hand = c.args.hand; watch = c.in_ok-watch.watch; budget = c.args.budget; workers = c.args.workers } in
    more_budget c.args.jobs.now.items c.push.new.self.items job c.in_ok-push.ensures.items

pub returns-clause-many : goal.returns-clause-many
returns-clause-many g c =
    let job : Job g.row.J.Denot = record { hand = c.args.hand; watch = c.in_ok-watch.watch; budget = c.args.budget; workers = c.args.workers } in
    more_many c.args.jobs.now.items c.push.new.self.items job c.in_ok-push.ensures.items
