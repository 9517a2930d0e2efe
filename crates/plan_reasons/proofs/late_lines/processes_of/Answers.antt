use Rattle.sentences.proofs.Listing.{next_more}
use Rattle.plan_reasons.specs.LateLines.{IsLateProcess}
use Rattle.plan_reasons.proofs.late_lines.processes_of.Goals as goal

pub loop-part-preserved : goal.loop-part-preserved
loop-part-preserved c =
    next_more (IsLateProcess c.args.instance.now) c.args.parts.now c.loop-part.part-index _ c.loop-part.told.items c.push.new.self.items
    c.late_process.result c.loop-part-test.true c.loop-part.invariant c.late_process.ensures c.in_ok-push.ensures.items
