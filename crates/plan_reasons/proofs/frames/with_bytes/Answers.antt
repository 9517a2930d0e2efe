use Rattle.sentences.proofs.Listing.{next_more}
use Rattle.plan_reasons.specs.Frames.{IsFrameMessage}
use Rattle.plan_reasons.proofs.frames.with_bytes.Goals as goal

pub loop-m-preserved : goal.loop-m-preserved
loop-m-preserved c =
    next_more (IsFrameMessage c.args.instance.now) c.args.messages.now c.loop-m.m-index _ c.loop-m.items.items c.push.new.self.items
    c.frame_message.result c.loop-m-test.true c.loop-m.invariant c.frame_message.ensures c.in_ok-push.ensures.items
