use Rattle.std.proofs.Common.{arith}
use Rattle.std.proofs.lemmas.List.{take_all}
use Rattle.plan_reasons.specs.Late.{arrived_late}
use Rattle.plan_reasons.proofs.Growing.{list_grows}
use Rattle.plan_reasons.proofs.late.push_arrived.Goals as goal

pub push_late-requires-clause-inside : goal.push_late-requires-clause-inside
push_late-requires-clause-inside c = c.requires.inside c.loop-q.q-index 0 c.loop-q-test.true

pub loop-q-preserved : goal.loop-q-preserved
loop-q-preserved c = record {
  parts = list_grows _ _ _ (arrived_late c.args.instance.now c.args.m c.args.from) c.args.receivers.now c.loop-q.q-index 0 c.loop-q-test.true
      c.loop-q.invariant.parts c.in_ok-push_late.ensures.parts;
  there = c.in_ok-push_late.ensures.there;
}

pub returns-clause-parts : goal.returns-clause-parts
returns-clause-parts c = rw (take_all c.loop-q.q-index c.args.receivers.now (omega arith)) at c.loop-q.invariant.parts
