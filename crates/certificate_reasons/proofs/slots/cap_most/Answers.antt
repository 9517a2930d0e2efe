use Rattle.certificate_reasons.proofs.SlotTimes.{choice_is, instance_is}
use Rattle.certificate_reasons.proofs.slots.cap_most.Goals as goal

pub cap_most-requires : goal.cap_most-requires
cap_most-requires c = rw (instance_is c.setting.result.now c.args.facts.now.known c.args.facts.now c.setting.ensures) c.requires

pub returns-clause-value : goal.returns-clause-value
returns-clause-value c =
    let facts = c.args.facts.now in
    let setting = c.setting.result.now in
    rw (← instance_is setting facts.known facts c.setting.ensures, ← choice_is setting facts.known facts c.setting.ensures) c.cap_most.ensures.value
