use Rattle.std.proofs.Common.{arith, ap, refl}
use Rattle.ttp_model.specs.declared.parts.Cluster.{Cluster}
use Rattle.ttp_model.specs.declared.parts.Process.{Process}
use Rattle.sought_plans.specs.Conclusions.{SentBefore}
use Rattle.sought_plans.specs.Premises.{AreChances}
use Rattle.tt_infer.proofs.rules.rounds.hi_arrive.Goals as goal

pub returns : goal.returns
returns c =
    let i = c.args.setting.now.instance in
    let r = c.rounds_until-r.result in
    let node = rw c.instance-instance.ensures at c.source_of.ensures.value in
    let wcet = ap (λ (q : Process). q.wcet) (rw c.instance-instance.ensures at c.process_at.ensures.value) in
    let copy = ap (λ (all : Cluster). all.copy_in) (rw c.instance-instance.ensures at c.cluster.ensures.value) in
    let rounds = rw node at c.rounds_until-r.ensures in
    let chances : AreChances i c.args.setting.now.choice c.args.known.now c.args.m c.args.q r = λ s. (
      λ below. omega (arith, (rounds s).0 below, wcet, copy, c.from-wcet.ensures, c.from.ensures, c.le.ensures),
      λ ends. (rounds s).1 (omega (arith, ends, wcet, copy, c.from-wcet.ensures, c.from.ensures, c.le.ensures)),
    ) in (
      c.requires.open,
      record {
        there = rw c.instance.ensures at (c.receives.ensures.is.0 c.if-not-receives.false);
        premise = tt;
        conclusion = SentBefore c.args.m r;
        concludes = (r, chances, refl);
        known = c.sent_before.ensures;
      },
    )
