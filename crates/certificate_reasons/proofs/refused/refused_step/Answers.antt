-- The steps before the one that is refused lead there.
use Rattle.std.proofs.Common.{arith}
use Rattle.certificate_reasons.proofs.Refusals.{before_leads, place_inside, refused_there, refused_told, some_behind}
use Rattle.certificate_reasons.proofs.refused.refused_step.Goals as goal

pub split_at-requires : goal.split_at-requires
split_at-requires c = omega (arith, place_inside _ _ _ c.args.steps.now c.args.place c.requires.refused)

pub take_all-requires : goal.take_all-requires
take_all-requires c =
    rw (c.in_ok-facts.ensures, c.in_ok-room.ensures) (before_leads _ _ _ c.args.steps.now c.args.place c.requires.refused c.split_at.result.0.now c.split_at.result.1.now
    c.split_at.ensures.front c.split_at.ensures.back)

pub bounds-others-0 : goal.bounds-others-0
bounds-others-0 c =
    some_behind _ _ _ c.args.steps.now c.args.place c.requires.refused c.split_at.result.0.now c.split_at.result.1.now c.split_at.ensures.front c.split_at.ensures.back

pub refusal_of-why-requires : goal.refusal_of-why-requires
refusal_of-why-requires c =
    let lead = rw (c.in_ok-facts.ensures, c.in_ok-room.ensures) at c.take_all.ensures.lead in
    rw (c.take_all.ensures.others, c.in_ok-facts.ensures, c.in_ok-room.ensures) (refused_there _ _ _ c.args.steps.now c.args.place c.requires.refused c.split_at.result.0.now
    c.split_at.result.1.now c.split_at.ensures.front c.split_at.ensures.back c.take_all.new.facts.known lead c.index-others-0.result c.index-others-0.is)

pub returns : goal.returns
returns c =
    let lead = rw (c.in_ok-facts.ensures, c.in_ok-room.ensures) at c.take_all.ensures.lead in
    let why = rw (c.take_all.ensures.others, c.in_ok-facts.ensures, c.in_ok-room.ensures) at c.refusal_of-why.ensures in
    refused_told _ _ _ c.args.steps.now c.args.place c.requires.refused c.split_at.result.0.now c.split_at.result.1.now c.split_at.ensures.front
    c.split_at.ensures.back c.take_all.new.facts.known lead c.index-others-0.result c.index-others-0.is _ c.rule_of.ensures why
