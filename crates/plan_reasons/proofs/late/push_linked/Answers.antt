use Rattle.std.proofs.Common.{◌≡◌, length, ap, arith}
use Rattle.plan_reasons.specs.Late.{linked_late}
use Rattle.plan_reasons.proofs.Growing.{range_grows}
use Rattle.plan_reasons.proofs.late.push_linked.Goals as goal

pub loop-l-preserved : goal.loop-l-preserved
loop-l-preserved c = record {
  parts = range_grows _ _ _ (linked_late c.args.instance.now c.args.ends.now) c.loop-l.l c.loop-l.invariant.parts c.in_ok-push_link.ensures.parts;
  there = c.in_ok-push_link.ensures.there;
}

pub returns-clause-parts : goal.returns-clause-parts
returns-clause-parts c =
    let all : c.loop-l.l ≡ length c.args.instance.now.links = omega (arith, ap length c.links-count.ensures.value) in
    rw all at c.loop-l.invariant.parts
