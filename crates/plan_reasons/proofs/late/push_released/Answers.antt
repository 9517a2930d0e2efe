use Rattle.std.proofs.Common.{◌≡◌, length, ap, arith}
use Rattle.plan_reasons.specs.Late.{released_late}
use Rattle.plan_reasons.proofs.Growing.{range_grows}
use Rattle.plan_reasons.proofs.late.push_released.Goals as goal

pub loop-p-preserved : goal.loop-p-preserved
loop-p-preserved c = record {
  parts = range_grows _ _ _ (released_late c.args.instance.now) c.loop-p.p c.loop-p.invariant.parts c.in_ok-push_release.ensures.parts;
  there = c.in_ok-push_release.ensures.there;
}

pub returns-clause-parts : goal.returns-clause-parts
returns-clause-parts c =
    let all : c.loop-p.p ≡ length c.args.instance.now.processes = omega (arith, ap length c.processes-count.ensures.value) in
    rw all at c.loop-p.invariant.parts
