-- A lawful step is taken.
use Rattle.tt_infer.proofs.Determined.{fault-not_lawful}
use Rattle.certificate_reasons.proofs.steps.told_step.Goals as goal

pub step_reason-requires : goal.step_reason-requires
step_reason-requires c = c.requires.lawful.1.there

pub unreachable-requires : goal.unreachable-requires
unreachable-requires c =
    let s = c.args.facts.now in
    fault-not_lawful s.instance s.choice s.goal s.known c.args.step.now c.requires.lawful.0 c.in-Err.field-0 c.in-Err.ensures.step.0 c.requires.open
    c.requires.lawful.1

pub returns-clause-told : goal.returns-clause-told
returns-clause-told c = record {
  reason_is = c.in_ok-reason.ensures;
  conclusion_is =
      rw (c.value-after.ensures, c.value-before.ensures, c.target-fact.ensures, c.instance-instance.ensures.value) at c.conclusion_of-conclusion.ensures;
}
