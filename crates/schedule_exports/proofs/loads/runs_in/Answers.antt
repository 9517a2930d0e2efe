use Rattle.sentences.proofs.Listing.{next_more}
use Rattle.schedule_exports.specs.Loads.{IsRun}
use Rattle.schedule_exports.proofs.loads.runs_in.Goals as goal

pub loop-p-preserved : goal.loop-p-preserved
loop-p-preserved c =
    next_more (IsRun c.args.instance.now c.args.plan.now) c.args.processes.now c.loop-p.p-index _ c.loop-p.runs.items c.push.new.self.items
    c.run_of.result c.loop-p-test.true c.loop-p.invariant c.run_of.ensures c.in_ok-push.ensures.items
