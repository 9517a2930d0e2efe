use Rattle.std.proofs.Common.{length, arith, ap, inl, inr}
use Rattle.std.proofs.lemmas.Bool.{cases_eq}
use Rattle.step_logs.proofs.Lists.{receiver_steps_kept}
use Rattle.step_logs.proofs.required.add_message_steps.Goals as goal

pub loop-m-preserved : goal.loop-m-preserved
loop-m-preserved c =
    let more = c.in_ok-add_receiver_steps.ensures in
    let added = rw (c.as_slice-receivers.ensures, c.message_at.ensures.value) at more.added in
    record {
      kept = λ step has. more.kept step (c.loop-m.invariant.kept step has);
      added = λ k q below has. elim (cases_eq k c.loop-m.m) [
        | inl same ↦ rw same (added q (rw same at has))
        | inr other ↦ receiver_steps_kept _ _ k q more.kept (c.loop-m.invariant.added k q (omega (arith, below, other)) has)
      ];
    }

pub returns-clause-added : goal.returns-clause-added
returns-clause-added c = λ m q receives. c.loop-m.invariant.added m q (omega (arith, receives.0, ap length c.messages.ensures.value, c.loop-m-test.false)) receives.1
