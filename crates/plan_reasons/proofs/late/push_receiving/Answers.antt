use Rattle.std.proofs.Common.{◌≡◌, length, ap, arith}
use Rattle.plan_reasons.specs.Late.{receivers_late}
use Rattle.plan_reasons.proofs.Growing.{range_grows}
use Rattle.plan_reasons.proofs.late.push_receiving.Goals as goal

pub loop-m-preserved : goal.loop-m-preserved
loop-m-preserved c = record {
  parts = range_grows _ _ _ (receivers_late c.args.instance.now c.args.ends.now) c.loop-m.m c.loop-m.invariant.parts c.in_ok-push_receivers.ensures.parts;
  there = c.in_ok-push_receivers.ensures.there;
}

pub returns-clause-parts : goal.returns-clause-parts
returns-clause-parts c =
    let all : c.loop-m.m ≡ length c.args.instance.now.messages = omega (arith, ap length c.messages-count.ensures.value) in
    rw all at c.loop-m.invariant.parts
