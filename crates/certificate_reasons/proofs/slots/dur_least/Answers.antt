use Rattle.certificate_reasons.proofs.SlotTimes.{choice_is, instance_is}
use Rattle.certificate_reasons.proofs.slots.dur_least.Goals as goal

pub dur_least-requires : goal.dur_least-requires
dur_least-requires c = rw (instance_is c.setting.result.now c.args.facts.now.known c.args.facts.now c.setting.ensures) c.requires

pub returns : goal.returns
returns c =
    let facts = c.args.facts.now in
    let setting = c.setting.result.now in
    rw (← instance_is setting facts.known facts c.setting.ensures, ← choice_is setting facts.known facts c.setting.ensures) c.dur_least.ensures.value
