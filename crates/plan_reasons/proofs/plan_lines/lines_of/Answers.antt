use Rattle.sentences.proofs.Listing.{next_more}
use Rattle.plan_reasons.specs.PlanLines.{IsLineOf}
use Rattle.plan_reasons.proofs.plan_lines.lines_of.Goals as goal

pub loop-link-preserved : goal.loop-link-preserved
loop-link-preserved c =
    next_more (IsLineOf c.args.instance.now c.args.plan.now) c.args.links.now c.loop-link.link-index _ c.loop-link.lines.items c.push.new.self.items
    c.line_of.result c.loop-link-test.true c.loop-link.invariant c.line_of.ensures c.in_ok-push.ensures.items
