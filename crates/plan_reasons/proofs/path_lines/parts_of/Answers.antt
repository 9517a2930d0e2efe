use Rattle.sentences.proofs.Listing.{next_more}
use Rattle.plan_reasons.specs.PathLines.{IsPathPart}
use Rattle.plan_reasons.proofs.path_lines.parts_of.Goals as goal

pub loop-part-preserved : goal.loop-part-preserved
loop-part-preserved c =
    next_more (IsPathPart c.args.instance.now) c.args.parts.now c.loop-part.part-index _ c.loop-part.told.items c.push.new.self.items
    c.path_part.result c.loop-part-test.true c.loop-part.invariant c.path_part.ensures c.in_ok-push.ensures.items
