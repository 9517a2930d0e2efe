use Rattle.std.proofs.Common.{arith, inl, inr, length, ap}
use Rattle.std.proofs.lemmas.Bool.{cases_eq}
use Rattle.ttp_model.specs.Instance.{message_at}
use Rattle.plan_facts.proofs.chains.follow_messages.Goals as goal

pub loop-m-preserved : goal.loop-m-preserved
loop-m-preserved c =
    let h = c.loop-m.invariant in
    let more = c.follow_message.ensures in
    record {
      chains = more.chains;
      kept = λ p. omega (arith, h.kept p, more.kept p);
      reach = λ k q below has. elim (cases_eq k c.loop-m.m) [
        | inl same ↦ rw same (omega (arith, h.kept (message_at c.args.instance.now c.loop-m.m).sender, more.reach q (rw same at has)))
        | inr other ↦ omega (arith, h.reach k q (omega (arith, below, other)) has, more.kept q)
      ];
    }

pub returns-clause-reach : goal.returns-clause-reach
returns-clause-reach c = λ m q there has. c.loop-m.invariant.reach m q (omega (arith, there, ap length c.messages-m-end.ensures.value, c.loop-m-test.false))
    has
