use Rattle.std.proofs.Common.{length, ap, arith}
use Rattle.earliest_starts.proofs.Listed.{copied_more}
use Rattle.earliest_starts.proofs.earliest_plan.rounds.Goals as goal

pub loop-m-preserved : goal.loop-m-preserved
loop-m-preserved c =
    copied_more c.args.choice.now.lo c.loop-m.m c.lo.result c.loop-m.rounds.items c.push.new.self.items
    (omega (arith, c.loop-m-test.true, c.requires.lo_length, ap length c.messages.ensures.value)) c.lo.ensures c.loop-m.invariant c.in_ok-push.ensures.items
