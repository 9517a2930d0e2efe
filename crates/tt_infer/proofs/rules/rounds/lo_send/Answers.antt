use Rattle.std.proofs.Common.{arith, ap, length, refl}
use Rattle.sought_plans.specs.Conclusions.{SentFrom}
use Rattle.sought_plans.specs.Premises.{IsFirstChance}
use Rattle.tt_infer.proofs.rules.rounds.lo_send.Goals as goal

pub returns : goal.returns
returns c =
    let r = c.first_round_from-r.result in
    let node = rw c.instance-instance.ensures at c.source_of.ensures.value in
    let ready = rw c.instance-instance.ensures at c.least_ready-ready.ensures.value in
    let first = rw node at c.first_round_from-r.ensures in
    let chance : IsFirstChance c.args.setting.now.instance c.args.setting.now.choice c.args.known.now c.args.m r = record {
      late_enough = omega (arith, ready, first.late_enough);
      least = λ s h. first.least s (omega (arith, ready, h));
    } in (
      c.requires.open,
      record {
        there = omega (arith, c.if-m-messages.false, ap length (rw c.instance.ensures at c.messages.ensures.value));
        premise = tt;
        conclusion = SentFrom c.args.m r;
        concludes = (r, chance, refl);
        known = rw c.instance-instance.ensures at c.sent_from.ensures;
      },
    )
