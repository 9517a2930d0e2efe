use Rattle.std.proofs.Common.{◌≡◌, ◌+◌, length, arith, ap, ◌∙◌}
use Rattle.ttp_model.specs.declared.parts.Process.{Process}
use Rattle.sought_plans.specs.Conclusions.{EndsUntil}
use Rattle.sought_plans.specs.Premises.{wcet_of}
use Rattle.tt_infer.proofs.rules.dominance.us_settled.Goals as goal

pub returns : goal.returns
returns c =
    let process = rw c.instance-instance.ensures at c.process_at.ensures.value in
    let wcet : c.from-wcet.result ≡ wcet_of c.args.setting.now.instance c.args.p = c.from-wcet.ensures ∙ ap (λ (q : Process). q.wcet) process in (
      c.requires.open,
      record {
        there = omega (arith, c.if-p-processes.false, ap length (rw c.instance-instance.ensures at c.processes.ensures.value));
        premise = c.in-Some.ensures.rounds;
        conclusion = EndsUntil c.args.p (c.from-wcet.result + c.in-Some.time);
        concludes = (c.in-Some.time, c.in-Some.ensures.wait, ap (λ own. EndsUntil c.args.p (own + c.in-Some.time)) wcet);
        known = c.end_until.ensures;
      },
    )
